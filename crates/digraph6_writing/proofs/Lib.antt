-- The laws of writing a line.
pub mod OneBit
pub mod Arcs
pub mod LineParts
