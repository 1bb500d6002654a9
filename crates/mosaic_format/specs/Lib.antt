-- A two by two mosaic and its four planes: what a reader must believe, and what holds of it.
pub mod Mosaic  -- planes, taking apart, putting together, their checks; a plane's sides and part
pub mod Examples  -- mosaics of a few samples, computed
pub mod Accepted  -- when a call is accepted, and a plane's part by the facts that decide it
pub mod Halves  -- the columns or rows of one parity, and the plane of a pixel
pub mod Places  -- pixels and places in the planes are one to one, `once`
pub mod Planes  -- a plane's part of the list is that plane, and each sample is found at its place
pub mod Undone  -- each of the two undoes the other
pub mod Frames  -- planes as frames of a stack: those of a mosaic with even sides, and one plane of several mosaics
pub mod Moved  -- a mosaic that is moved by twice a shift has planes that are moved by it
pub mod Rows  -- the samples of one row of the mosaic in the planes: two runs
