-- The laws that the functions that read a line cite.
pub mod FormatTest
pub mod Digits
pub mod SizeForms
pub mod ByteBits
pub mod FirstOnes
pub mod Bodies
pub mod MatrixRows
pub mod LinesRead
