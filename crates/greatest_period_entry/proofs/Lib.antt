-- The chosen lengths reach the greatest period; and the laws of the functions, in plain terms, which their proofs cite.
pub mod LandauReached
pub mod GreatestPeriod
pub mod Choosing
pub mod Cycles
pub mod Requests
pub mod Chosen
