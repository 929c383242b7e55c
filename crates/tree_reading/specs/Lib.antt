-- What the readers of trees and components mean.
pub mod Walking
