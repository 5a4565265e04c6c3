-- A transmission of a track: its layout (Layout), what it holds (Held), its bytes (Bytes); and what the code asks of bytes (Parts) and of values (Values).
pub mod Layout
pub mod Held
pub mod Bytes
pub mod Parts
pub mod Values
