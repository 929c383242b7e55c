-- What the theory of systems adds to the definitions of mapping patterns.
pub mod Step
pub mod StepBack
