pub mod Numbers
pub mod Comparison
pub mod Alike
pub mod Lookup
pub mod Zeros
pub mod Moves
pub mod Puts
pub mod Framing
