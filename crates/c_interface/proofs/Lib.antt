-- What the proofs of the entries for C callers share.
pub mod Fitting
pub mod Measures
pub mod Parts
pub mod Pages
pub mod CountFits
pub mod PeriodFits
pub mod GreatestFits
