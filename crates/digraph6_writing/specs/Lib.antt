-- What writing a line asks for.
pub mod BodyPlaces
