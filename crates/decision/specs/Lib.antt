-- The decision: the whole answer (Answer) in arrays (Arrays), and as the code has it (Answered), of what the crate `rule` says is decided, what is claimed of every decision (Claims, with the items of Positions), how it
-- stands to the decision that the Rust makes (Before), and what the code keeps while it decides (Working), of items that are given by their places (Each).
pub mod Arrays
pub mod Answer
pub mod Sorted
pub mod Answered
pub mod Positions
pub mod Claims
pub mod Before
pub mod Working
pub mod Each
