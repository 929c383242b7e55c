-- The definitions that the contracts of size lists cite.
pub mod SizesHeld
