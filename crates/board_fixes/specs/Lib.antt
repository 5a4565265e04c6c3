-- The fixes of a board: what they are (Fixes), how they stand in the order of identities (Order), and how many there are at most (Slots).
pub mod Fixes
pub mod Order
pub mod Slots
