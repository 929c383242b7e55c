-- What the links and the leaders of a table are.
pub mod Links
pub mod Leads
