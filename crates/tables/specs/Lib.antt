-- A counted table in bytes (Places), and what a search in it answers (Tables); where a key stands in it, and what putting a place in does to its bytes (Positions); what a loop leaves of one whose places are taken out (Strikes).
pub mod Places
pub mod Positions
pub mod Tables
pub mod Strikes
