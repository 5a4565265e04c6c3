-- The shelf beside a track: its layout (Layout), the fixes that wait (Waiting), its bytes (Memory), and a track with its shelf (Both); and what the code does to bytes (Steps).
pub mod Layout
pub mod Waiting
pub mod Memory
pub mod Both
pub mod Steps
