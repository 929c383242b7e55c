-- The period of a map is the least common multiple of its cycle lengths; what it is at most, and of cycles of rising lengths.
pub mod CommonMultiples
pub mod CyclePeriods
pub mod TriedPeriods
pub mod CodePeriods
pub mod Factors
pub mod LandauBound
pub mod GreatestPeriod
