pub mod Words
pub mod Calling
pub mod Orders
