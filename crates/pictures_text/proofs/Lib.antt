-- Laws of products of lists (Pairs), of the items of a case (Items), of the cases (Claimed) and of their lines (Lines); three lines by computation (Worked).
pub mod Pairs
pub mod Items
pub mod Claimed
pub mod Lines
pub mod Worked
