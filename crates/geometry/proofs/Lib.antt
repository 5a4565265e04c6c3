pub mod Comparing
pub mod Constants
pub mod Positions
pub mod Quadrants
