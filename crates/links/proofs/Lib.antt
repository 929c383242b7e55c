-- Laws of the links and the leaders of a table.
pub mod Linking
pub mod Descending
