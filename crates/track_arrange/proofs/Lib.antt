pub mod Stable
pub mod Tables
pub mod Entering
pub mod Placing
pub mod Values
pub mod Claimed
pub mod Ascending
