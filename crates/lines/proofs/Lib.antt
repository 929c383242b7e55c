-- The lines of the listing program as texts put one after another.
pub mod LineTexts
