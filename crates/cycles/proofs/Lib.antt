-- The laws that the functions on the cycles of a table cite.
pub mod Marks
pub mod CountBelow
pub mod Degrees
pub mod Queue
pub mod Listing
pub mod Leaves
pub mod Pruning
pub mod Marking
