-- One component of a written code, which its readers read by itself.
pub mod ReadComponent
