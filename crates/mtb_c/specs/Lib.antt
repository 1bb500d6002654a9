-- What the exported functions return.
pub mod Status
