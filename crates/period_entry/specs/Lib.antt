-- What the functions behind the period of a map are asked for.
pub mod SmallTables
