-- What the test programs' shared functions compute.
pub mod Answers
pub mod Examples
pub mod Lines
pub mod Lists
