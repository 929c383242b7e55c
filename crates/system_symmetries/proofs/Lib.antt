-- The theory of this layer.
pub mod EqualComponents
pub mod ComponentWalks
