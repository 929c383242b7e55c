-- The theory of components: Lemma 8, children and their keys, the generation list, its order by paths, and the local step.
pub mod CanonicalComponents
pub mod Unmerging
pub mod Lemma8
pub mod Children
pub mod Keys
pub mod ChildPlaces
pub mod Traversal
pub mod Generation
pub mod Alternating
pub mod Paths
pub mod Pieces
pub mod LocalStep
pub mod Successor
pub mod LastComponent
pub mod Powers
pub mod RotationSymmetry
pub mod Prenecklaces
