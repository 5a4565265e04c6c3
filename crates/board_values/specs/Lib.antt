-- The fixes of a board as values: the entries (Entries), their bytes and the operation (Written), how an entry is read (Reading), what is claimed of them (Claims), and what the code writes of a picture (Drawn).
pub mod Entries
pub mod Written
pub mod Reading
pub mod Claims
pub mod Drawn
