-- How many tables have a system: all pairs of a table with it and an isomorphism from its map are counted, by the isomorphism and by the table.
pub mod Exactly
pub mod Orderings
pub mod TableLists
pub mod RenamedTables
pub mod WholePlants
pub mod StandingPlants
pub mod CyclePlants
pub mod ShownSystems
pub mod CountedIsomorphisms
pub mod CountedTables
pub mod Automorphisms
pub mod Arrangements
pub mod SymmetryBounds
pub mod SmallSymmetries
pub mod SymmetryExamples
