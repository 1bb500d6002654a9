pub mod Answers  -- the code's answers in document 02's terms
pub mod Rows  -- what the functions of this crate promise each other of a row
