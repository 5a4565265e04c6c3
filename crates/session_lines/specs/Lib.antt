pub mod Numbers
pub mod Keys
pub mod Lines
pub mod Operations
pub mod Session
pub mod Gives
pub mod Claims
