-- The codes that are coming, how few they are, the states, and what a step puts.
pub mod ComingCodes
pub mod FewCodes
pub mod NextStates
pub mod StepTexts
