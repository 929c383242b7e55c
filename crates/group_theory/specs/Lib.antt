-- Groups of equal components, and the form of a code that writes each group's component once.
pub mod Groups
pub mod GroupedForm
