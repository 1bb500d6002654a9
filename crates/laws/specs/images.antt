-- Frames: places, moved rows, the crop, the histogram, the pyramid.
pub mod Sizes  -- products of sides are small, and a row lies inside its frame
pub mod Places  -- the source of a place: before the frame, inside it, past it
pub mod Runs  -- a row of a moved image as three runs: zeros, samples, zeros
pub mod Axis  -- one axis of a shift list, and the largest of its coordinates
pub mod Crop  -- a place is in the crop exactly if every frame, moved by its shift, covers it
pub mod LastRows  -- the last k rows of a frame: their samples, one row more, all rows
pub mod Cut  -- the bins add up to the samples below a value, and the cut is the least value with the target or more below it
pub mod Levels  -- the base-two logarithm, and how many levels a frame has
pub mod Pyramids  -- the levels of a pyramid: their sides, their samples, and where each stands in the scratch
