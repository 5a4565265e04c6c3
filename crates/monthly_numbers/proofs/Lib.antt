-- Fixes and the places that they come of (Fixes), what becomes of the fixes of one transmission (Ways), and the ending of a held record (Ending); a table of endings
-- (Telling), what is found in it of a record (Finding), the numbers of an engine (Counting), how long a line is (Lines), all of it for a register in memory (Claimed), and a small register by
-- computation (Worked).
mod Fixes
mod Ways
mod Ending
mod Telling
mod Finding
mod Counting
mod Lines
mod Claimed
mod Worked
