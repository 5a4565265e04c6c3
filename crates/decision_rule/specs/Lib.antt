-- The rule of a decision: what is decided of a list of items (Standing, Outcome), how items in bytes relate (Related), and how the code comes to it: how items of a
-- list relate by their places (Listed), sets of places (Places), what is known of each item (Rows) and of its factor (Factors) in each phase (Phases), and what a search
-- for the foremost has chosen (First).
pub mod Outcome
pub mod Standing
pub mod Related
pub mod Listed
pub mod Places
pub mod First
pub mod Rows
pub mod Factors
pub mod Phases
