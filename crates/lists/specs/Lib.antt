-- What is said of lists (Lists), of indices and of members that ascend (Ordered), and what loops over indices find and tables hold (Range, Tables).
pub mod Lists
pub mod Ordered
pub mod Range
pub mod Tables
