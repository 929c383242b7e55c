-- The theory of this layer.
pub mod Validity
pub mod OnePass
pub mod RotationAnswers
pub mod Climbing
