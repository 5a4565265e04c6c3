-- What is taken out of a track (Recheck), and what the code does to bytes (Steps).
pub mod Recheck
pub mod Steps
