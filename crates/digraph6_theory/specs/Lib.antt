-- The digraph6 line of a map, and the map of a line.
pub mod Digraph6
pub mod LineEntries
