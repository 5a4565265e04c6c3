-- Numbers in bytes (Words), texts in bytes (Ascii), byte order (Order, and Alike, which only loops need), masks (Masks), runs of zeros (Runs); that all are bytes (Bytes), what a write leaves (Writes), which of two slices is handed back
-- (Lesser), and what is claimed (Claims).
pub mod Words
pub mod Order
pub mod Alike
pub mod Masks
pub mod Runs
pub mod Ascii
pub mod Bytes
pub mod Writes
pub mod Lesser
pub mod Put
pub mod Claims
