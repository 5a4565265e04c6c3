-- What a list of calls leaves in one order, and what is said of several orders.
pub mod Tried
