-- The laws of sums and products: of tables, of patterns, of systems and of codes.
pub mod Operation
pub mod Sums
pub mod Products
pub mod SamePatterns
pub mod SystemLaws
pub mod SumComponents
pub mod CodeLaws
