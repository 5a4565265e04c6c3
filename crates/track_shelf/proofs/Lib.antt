pub mod Marks
pub mod Shelves
pub mod Writing
pub mod Boths
