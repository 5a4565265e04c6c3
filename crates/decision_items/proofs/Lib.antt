pub mod Pairing
pub mod Reading
