-- The theory of this layer.
pub mod EqualTrees
pub mod BranchWalks
pub mod CycleWalks
