-- The laws of the written form: numbers and bytes, what is read back, the round trip, where a component stands, and lists of calls over them.
pub mod Bounds
pub mod Results
pub mod Numbers
pub mod OnePass
pub mod NumberForms
pub mod Widths
pub mod ReadFrom
pub mod Readback
pub mod WrittenShort
pub mod WrittenBack
pub mod Stretches
pub mod ComponentStands
pub mod Runs
pub mod Calls
pub mod Turns
pub mod PageBytes
