mod Ends
mod Lasting
mod Runs
mod SameHolds
mod Steps
