-- What a track keeps of the fixes of one transmission (Normal), what a further fix does to them (Joining) and what is told of it (Did), which fixes count still
-- (Signed), what is claimed (Claims); and what the code makes of gathered fixes (Deciding) and of a further one (Taking).
pub mod Normal
pub mod Joining
pub mod Did
pub mod Signed
pub mod Claims
pub mod Deciding
pub mod Taking
