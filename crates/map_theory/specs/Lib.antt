-- What the theory of maps speaks of beyond the definitions of mapping patterns.
pub mod Plants
pub mod UnorderedCensus
