-- The join of two registers (Join), what one of them lacks (Lacks), what is claimed of both (Claims), and in which order they are refused (Refusals); what a walk through two tables makes of them (Merged).
pub mod Join
pub mod Lacks
pub mod Claims
pub mod Refusals
pub mod Merged
