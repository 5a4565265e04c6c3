-- The items of a decision: their layout (Layout), what a record claims (Claimed), what their bytes say (Items), and items as values (Values).
pub mod Layout
pub mod Claimed
pub mod Items
pub mod Values
