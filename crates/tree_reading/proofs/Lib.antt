-- The laws of reading trees and components, in plain terms; the proofs of the functions cite them.
pub mod TreesRead
pub mod Along
pub mod Narrowing
