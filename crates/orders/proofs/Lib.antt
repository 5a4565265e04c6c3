pub mod Taken
pub mod Positions
pub mod Rearranged
pub mod Claimed
