-- The definitions that the contract of the reader of components cites.
pub mod ReadComponents
