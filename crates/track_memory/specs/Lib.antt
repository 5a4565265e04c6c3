-- A track in memory: its layout (Layout), what it holds (Track) and its bytes (Memory); and what the code does to bytes (Steps).
pub mod Layout
pub mod Track
pub mod Memory
pub mod Steps
