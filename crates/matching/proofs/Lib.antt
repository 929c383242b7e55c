-- The laws of sending labels.
pub mod Sending
