-- Symmetries of trees, components and systems, and renamed tables.
pub mod Symmetries
pub mod Renaming
