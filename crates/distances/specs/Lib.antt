-- What a list of distances notes.
pub mod Noted
