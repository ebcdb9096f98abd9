pub mod Public
mod Alike
mod FewSets
mod AliasAnswers
mod Knowing
mod Placing
mod Traces
mod Legs
mod Reaching
mod Walking
mod WalkKeys
mod Composing
mod Climbing
mod Spots
mod Pairs
mod Linking
mod Listing
