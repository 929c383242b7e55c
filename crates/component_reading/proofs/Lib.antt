-- The laws of reading components, in plain terms.
pub mod ComponentsRead
