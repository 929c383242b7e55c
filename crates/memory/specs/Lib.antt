-- What lent slices hold.
pub mod Memory
pub mod HeldCode
