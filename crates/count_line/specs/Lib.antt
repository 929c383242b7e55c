-- Which inputs are good.
pub mod Count
