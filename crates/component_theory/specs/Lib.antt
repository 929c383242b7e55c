-- What the theory of components adds to the definitions of mapping patterns.
pub mod Path
pub mod LocalStep
pub mod Successor
pub mod ChildPlaces
