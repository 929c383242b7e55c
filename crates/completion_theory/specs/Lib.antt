-- Tables within spans, and a search for the first one that has a system.
pub mod Completion
pub mod Arrangement
