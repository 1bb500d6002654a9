-- Laws that the proofs of several functions cite.
pub mod Decoded
pub mod Numbers
pub mod Puts
pub mod Room
pub mod Called
