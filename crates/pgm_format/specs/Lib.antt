-- Netpbm's binary greymap (P5): what a reader must believe, that grammar and reader are the same, and what holds of a file that is written.
pub mod Pgm  -- bytes, the grammar, an image at a place of a file; the reader, the writer, and their checks
pub mod Stack  -- images one behind another, and the stack that is laid out of them; files of frames one behind another
pub mod Examples  -- files of a few bytes, computed
pub mod Fronts  -- gaps, numbers and fields at the front of a list: each is read whole, and what is read is one
pub mod Headers  -- the same of a header, and of one at a place of a file
pub mod Parts  -- the part of a file between two places
pub mod SizeChecks  -- the checks behind 13, by the facts that decide them
pub mod Grammar  -- the table of reading an image, `reads`
pub mod Runs  -- the table of laying out a stack, `stack_reads`
pub mod Writes  -- the table of the writer's answers, `writes`
pub mod Written  -- a written file: read back, the same for no other frame, never longer than what was read
pub mod Brackets  -- frames written one behind another are read back as that bracket
