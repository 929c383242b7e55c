-- What a state stands for, which states there are, and what one step puts.
pub mod Remaining
pub mod Good
pub mod Put
