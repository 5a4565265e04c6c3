pub mod Root
pub mod SquareRoot
pub mod Claims
pub mod Worked
