-- What is said of two rooms: the lines (Lines), what a room lacks (Lacking), how boards differ (Boards), all of it (Compared), the register that a file holds
-- (Reading), and what is claimed (Claims).
pub mod Lines
pub mod Lacking
pub mod Boards
pub mod Reading
pub mod Compared
pub mod Claims
