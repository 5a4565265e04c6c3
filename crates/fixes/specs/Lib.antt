-- A fix (Fix), what is shown of fixes (Shown), which of two is older (Ages), that what is shown is the decision of it (Claims); and fixes as the items of a
-- decision, for the code (Items, Decided), and a record as a fix (Made).
pub mod Fix
pub mod Shown
pub mod Ages
pub mod Claims
pub mod Items
pub mod Decided
pub mod Made
