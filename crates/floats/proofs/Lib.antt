pub mod Square
pub mod Leading
pub mod Middle
pub mod Near
pub mod Pattern
pub mod Positives
pub mod Ieee754
pub mod Worked
