-- The best of nine, a step from level to level, and the walk of a stack.
pub mod Least  -- the earliest least: one of the list, none costs less, every earlier one costs more
pub mod Tried  -- what a level tries of the nine: up to the first that disagrees in no pixel
pub mod StepBounds  -- how far a step and a frame's shift lie, and how many comparisons a step makes
pub mod EqualFrames  -- a frame against itself: the step is (0, 0), and one shift is tried at each level
pub mod Free  -- scratch that is free up to a need, in use and after a call
pub mod LevelSteps  -- from level to level: a level's image in its scratch, and its step by that of the coarser level
pub mod Walk  -- the walk of a stack: its order, a frame's shift by its neighbour's, and the shift list as it is filled
pub mod ShiftLists  -- the shifts of a stack in a list, and the step of a frame, which is its shift less its neighbour's
