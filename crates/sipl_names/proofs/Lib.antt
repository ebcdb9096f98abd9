pub mod Public
mod SameName
mod Lowercase
mod Wires
mod Buffers
mod Within
mod Counts
mod Wildcards
mod ReadText
mod Denotes
mod ReadHostname
mod Prefixes
mod RoundTrip
mod TextLength
mod Printing
