-- Good inputs by their bytes, the output for every input, and the theorem about the program.
pub mod Outputs
pub mod Program
