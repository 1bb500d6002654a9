-- What the proofs of several functions share.
pub mod Checks
pub mod Columns
pub mod Standing
pub mod Wholes
