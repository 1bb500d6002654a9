-- The code's answers in document 01's terms, and what its inner functions compute.
pub mod Answers
pub mod Asked
pub mod Blocks
pub mod Layout
pub mod Levelled
pub mod Owed
pub mod Packed
pub mod Packing
pub mod Search
pub mod Stack
pub mod Survey
pub mod Tally
