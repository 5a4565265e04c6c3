mod Room
mod Counted
pub mod ReadBack
mod Refused
mod Failing
