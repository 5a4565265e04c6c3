pub mod Counting
pub mod Single
pub mod Signing
pub mod Identified
pub mod Written
pub mod Opening
pub mod Joining
pub mod Claimed
