-- The order of all codes.
pub mod ListOrder
