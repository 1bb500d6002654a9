-- What the proofs of several functions share.
pub mod Headers
pub mod Images
pub mod Laying
pub mod Numbers
pub mod Passing
pub mod Places
pub mod Runs
pub mod StackAnswers
pub mod Writing
