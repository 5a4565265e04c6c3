pub mod Numbered
pub mod Tags
