-- The track with the shelf beside it: what the operations do (Track), the numbers of a report's answers (Answers), the fix that a track serves (Served), the calls (Calls), and what is claimed of them (Claims), of the fixes that wait (Shelved), and of the count of the contested (Counting); and what the code knows on its way (Steps).
pub mod Track
pub mod Answers
pub mod Served
pub mod Calls
pub mod Claims
pub mod Shelved
pub mod Counting
pub mod Steps
