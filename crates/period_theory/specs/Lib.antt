-- Least common multiples, the period of a map and Landau's function.
pub mod Multiples
pub mod LeastPeriod
pub mod Landau
