pub mod Nothing
pub mod Counted
pub mod Steps
pub mod Widths
pub mod Fronts
pub mod Cases
