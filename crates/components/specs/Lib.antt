-- What the functions of this crate ask and answer.
pub mod RotationTest
pub mod Climbs
