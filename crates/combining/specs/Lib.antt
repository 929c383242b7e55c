-- What making one table of two asks for, and what it makes.
pub mod Combining
