-- Bytes turned so that like bytes of all rows stand together (Transposed), those of a register so (Columns), and what is claimed of it (Claims).
pub mod Transposed
pub mod Columns
pub mod Claims
