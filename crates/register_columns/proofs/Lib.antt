pub mod Turning
pub mod Rearranged
