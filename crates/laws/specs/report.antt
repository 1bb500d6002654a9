-- The survey, the records, the verdicts, and all that a report owes.
pub mod Windows  -- the shifts within a reach: which they are, and their order
pub mod Neighbours  -- neighbour shifts are those one pixel away from a centre, and the test tells them
pub mod Keeping  -- what of a list passes a test: of two lists, of lists joined, of a list by index
pub mod Surveys  -- a survey row by row, and how many rivals there can be
pub mod Records  -- the rivals of a survey and the records of a report: none missing, none twice, their order, number and bytes
pub mod RecordBytes  -- the bytes of a record as they are stored, and of some records
pub mod Kept  -- records in a space that may be too short: whole ones only, as many as there is room for
pub mod ReadBack  -- the records read back from their bytes: nothing is lost
pub mod Verdicts  -- what each verdict says of a frame and its rivals
pub mod Demand  -- what the report owes, in one table
pub mod AtOne  -- with all percentiles equal, the answers are those at one percentile
