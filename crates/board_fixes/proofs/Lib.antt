pub mod Entering
pub mod Representing
pub mod Kept
mod Uniting
