-- Laws of the checks of a table.
pub mod SmallTables
pub mod Tables
