-- The theory of systems: size lists, canonical systems, the list of all codes and its order, the first code, and the step to the next and back.
pub mod Sizes
pub mod Canonical
pub mod Codes
pub mod Firsts
pub mod Step
pub mod Successors
pub mod StepScan
pub mod SizesBack
pub mod Lasts
pub mod StepBack
pub mod BackScan
