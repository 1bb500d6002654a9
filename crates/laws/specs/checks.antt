-- Which calls are refused, and what an accepted call was given.
pub mod Checks  -- ordered checks: what an answer says of the checks, the value and the buffers; each check by the fact that a branch gives
pub mod ChecksGeometry  -- the checks of geometry.rs
pub mod ChecksRow  -- a row that is asked for, by its checks: its words and where they start
pub mod ChecksDifference  -- the checks of counting two packed pairs
pub mod ChecksStep  -- the checks of a step, and what an accepted step was given
pub mod ChecksStack  -- the checks of a stack, and what an accepted stack was given
pub mod ChecksReport  -- the checks of a report, what an accepted one was given, and which check refused
