-- Numbers, whole numbers, sums and lists, whatever they stand for.
pub mod Cases  -- cases by an order or an equation of numbers, a choice by a test that is known
pub mod Whole  -- a whole number as two natural numbers of which one is 0, in the form that `omega` reads
pub mod Machine  -- a signed local and its casts, by the whole number that it holds
pub mod Sums  -- sums over a number: one more, split, the same terms, zero past a bound, bounds
pub mod Grids  -- sums over two numbers: added, swapped, over a strip
pub mod Lists  -- lists by index and images by pixel: one more, length, element, the same elements, in parts
pub mod Members  -- what a list has in it and in what order: by index, one after another, filtered, mapped
pub mod Counts  -- how many elements of a list pass a test
pub mod Writes  -- a run of stores in a list: one more, and the whole
pub mod Decimals  -- a number in decimal: digit by digit, and the shortest of its numerals
pub mod Beside  -- two runs of stores in one list, the second past the first
