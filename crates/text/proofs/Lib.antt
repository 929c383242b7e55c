-- Putting texts one after another, and decimal numbers.
pub mod Adding
pub mod Decimals
pub mod DecimalLaws
