-- The general vocabulary that the definitions of mapping patterns are written in.
pub mod Order
pub mod Sort
pub mod Select
pub mod Members
pub mod Blocks
pub mod Dealt
