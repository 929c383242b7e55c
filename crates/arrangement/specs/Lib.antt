-- What the functions that put trees and components in their places mean.
pub mod Arrangement
