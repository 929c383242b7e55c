-- The theory of this layer.
pub mod Factorials
pub mod TableCounts
