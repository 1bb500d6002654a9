-- What holds of the definitions, in groups: the file beside each folder says what holds in its modules.
pub mod general  -- numbers, whole numbers, sums and lists, whatever they stand for
pub mod images  -- frames: places, moved rows, the crop, the histogram, the pyramid
pub mod bitmaps  -- bits and words, packed bitmaps, and the counts of two packed pairs
pub mod checks  -- which calls are refused, and what an accepted call was given
pub mod search  -- the best of nine, a step from level to level, and the walk of a stack
pub mod report  -- the survey, the records, the verdicts, and all that a report owes
