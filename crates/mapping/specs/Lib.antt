-- What the functions from codes to maps mean.
pub mod Images
