-- The laws that the entry cites.
pub mod CodedPut
