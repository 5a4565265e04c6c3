-- Laws of lists, and of a range of indices.
pub mod Bools
pub mod Range
pub mod Orders
pub mod Lists
pub mod Sorting
pub mod Searches
pub mod Standard
