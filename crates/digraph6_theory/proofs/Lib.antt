-- The lines of maps: read back, one for each map, and those of codes.
pub mod Packing
pub mod Rows
pub mod Sizes
pub mod Lines
pub mod OneLine
pub mod LineLengths
pub mod LinePlaces
pub mod CodesAsLines
mod LineExamples
