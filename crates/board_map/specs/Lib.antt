-- The points of a map (Points), its text (Text) and the operation (Map); how a map is read (Reading); what is claimed of maps (Claims), three worked out (Worked),
-- and in which order one is refused (Refusals); and what the code writes of a picture (Written).
pub mod Points
pub mod Text
pub mod Map
pub mod Reading
pub mod Claims
pub mod Worked
pub mod Refusals
pub mod Written
