-- What a track does with a further fix (Merged) and what is claimed of it (Claims); what the code finds in a table (Searching).
pub mod Merged
pub mod Claims
pub mod Searching
