-- What the functions on the cycles of a table mean.
pub mod Marks
pub mod Queue
pub mod Pruning
