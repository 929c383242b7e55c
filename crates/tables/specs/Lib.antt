-- What a table that passes the checks is.
pub mod Tables
