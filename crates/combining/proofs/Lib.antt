-- The laws of one table made of two.
pub mod ShiftedNumbers
pub mod Pairing
