-- The order of all codes, of systems and of bytes.
pub mod ListOrder
pub mod CodeOrder
pub mod OrderExamples
