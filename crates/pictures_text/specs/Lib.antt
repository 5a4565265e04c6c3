-- All small pictures: the cases (Cases), in which order and with which numbers (Order), the items of each (Items), the text (Lines), what is claimed (Claims), and three lines to the letter (Worked);
-- for the code which case a number is (Numbered).
pub mod Cases
pub mod Order
pub mod Items
pub mod Lines
pub mod Numbered
pub mod Claims
pub mod Worked
