pub mod Output
pub mod Found
pub mod Reasons
pub mod Performed
pub mod Numbers
pub mod Claims
pub mod Worked
