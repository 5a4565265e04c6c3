pub mod Numbers
pub mod Heights
pub mod Decimals
pub mod Reading
pub mod Claims
pub mod Texts
pub mod Rounding
