-- The theory of this layer.
pub mod Walks
pub mod FirstPoints
pub mod Merging
pub mod TreeCodes
