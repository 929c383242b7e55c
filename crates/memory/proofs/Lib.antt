-- What stands where in memory, a walk along the components of a system, and the laws of what lent slices hold.
pub mod Standing
pub mod SystemWalks
pub mod Parts
pub mod FromRight
