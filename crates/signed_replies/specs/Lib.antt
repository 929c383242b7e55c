-- What the number of a reply shows.
pub mod FoundNumbers
