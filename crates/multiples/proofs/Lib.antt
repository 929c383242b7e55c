-- The laws that the proofs of the functions cite, in plain terms.
pub mod LcmSteps
