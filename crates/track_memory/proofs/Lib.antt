pub mod Frames
pub mod Blocks
pub mod Opened
pub mod Valid
pub mod Pairs
