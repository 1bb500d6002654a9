-- The text that the program prints, and what the functions that put it compute.
pub mod Examples
pub mod Inner
pub mod Text
