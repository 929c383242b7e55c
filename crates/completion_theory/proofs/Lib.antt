-- The first table within spans that has a system: what it is, and that the search finds it.
pub mod Completions
pub mod Swaps
pub mod FittingNames
pub mod MetArrangements
pub mod BestTables
pub mod FirstCompletion
pub mod CompletionExamples
