pub mod Writing
pub mod Numbered
pub mod Parsed
