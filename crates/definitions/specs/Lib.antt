-- What a reader must believe: document 01's terms by pixel, one file per file of the original, then the report, the refusals, numbers in decimal and
-- the cards.
pub mod Sum
pub mod Build
pub mod Geometry
pub mod Gray
pub mod Shrink
pub mod Threshold
pub mod Bitmap
pub mod Difference
pub mod Align
pub mod Report
pub mod Refusals
pub mod Decimal
pub mod Cards
pub mod Examples
