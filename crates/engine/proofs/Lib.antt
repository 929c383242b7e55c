-- The theorems about the entries, and that their contracts are what the theorems speak of.
pub mod Theorems
pub mod PreviewTheorems
pub mod CensusTheorems
pub mod PageTheorems
pub mod PredecessorTheorems
pub mod WrittenCodes
pub mod SameReplies
pub mod ArithmeticTheorems
pub mod TableCountTheorems
pub mod PeriodTheorems
pub mod GreatestPeriodTheorems
pub mod Digraph6Theorems
pub mod Demand3
pub mod Promises
