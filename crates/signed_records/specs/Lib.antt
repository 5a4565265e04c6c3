-- A record with its signers: its size, which a memory may hold, and what becomes of the signers (Signed), what a track's place begins with (Begins), and which places begin with a record (Read).
pub mod Signed
pub mod Begins
pub mod Read
