-- The laws that the entry cites.
pub mod MapsPut
pub mod Decoded
