-- What putting text at a place of a lent buffer means, and what the decimal form of a number is.
pub mod Added
pub mod DecimalForm
