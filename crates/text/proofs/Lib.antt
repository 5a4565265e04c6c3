pub mod Shapes
pub mod Readback
pub mod Rounding
pub mod Appending
pub mod Numerals
pub mod Exact
