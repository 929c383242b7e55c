-- The laws of groups of equal components and of the form that writes each component once.
pub mod Groups
pub mod RisingGroups
pub mod GroupWeights
pub mod GroupBytes
pub mod GroupsRead
pub mod GroupedBack
pub mod Converters
pub mod GroupedExamples
