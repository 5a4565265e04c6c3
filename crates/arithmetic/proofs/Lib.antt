pub mod Comparing
pub mod Constants
pub mod Outcomes
pub mod Placed
pub mod Positions
pub mod Sigma
pub mod Staged
