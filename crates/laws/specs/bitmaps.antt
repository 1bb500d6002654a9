-- Bits and words, packed bitmaps, and the counts of two packed pairs.
pub mod Bits  -- the bits of a number, and of what the word operations give
pub mod WordsOf  -- a number made from its bits, and its bits read back
pub mod Adders  -- words added up bit by bit, and their set bits counted once they are added up
pub mod Bitmaps  -- packed bitmaps: words a row, the bits of a word by column, one bit changed, padding, set bits
pub mod Packed  -- a packed bitmap has the bits that it was packed from, so counts of packed pairs are those of their frames
pub mod Moved  -- the words of a moved row, each two neighbours funnelled together
pub mod MovedRows  -- which words of a row show something of a moved one, and so which runs count all of it
pub mod Joints  -- what is counted of four bits, of four words and of runs of words: one law for both counts
pub mod Overlaps  -- both counts by pixel are those of the words, row by row
pub mod CountBounds  -- both counts are at most the pixels, and what is compared at most what the reference trusts
pub mod Bands  -- what two bands of rows disagree in is part of what the whole bitmaps disagree in
