pub mod Public
mod SameEndpoint
mod Choosing
mod FewTransports
