pub mod Heap
pub mod Widths
pub mod Held
pub mod Lacked
pub mod Alike
pub mod Silent
