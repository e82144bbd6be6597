-- Pairs of the object map: a handle and a place, each written as a step from the pair before.
pub mod Pairs
-- Pages of the object map, and the map.
pub mod Pages
-- The lines of the table of refusals on the object map, tried page by page and within a page pair by pair.
pub mod MapLines
-- How the object map is written: which pairs go into which page.
pub mod Writing
-- How a writer holds the page that is being filled.
pub mod PageFilling
-- The length of a map, counted pair by pair.
pub mod MapLength
-- Which handles a list of pairs has, reported by the highest while they ascend and by a set from there on.
pub mod DistinctPairs
-- What one step of reading does to what is left to try.
pub mod Reading
-- Pages of the map as recovery reads them: each by itself, whatever is wrong with its pairs or its check word.
pub mod Walking
