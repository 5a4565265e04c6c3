-- The order of a track's transmissions (Arranged), what is claimed of it (Claims), and how the code comes to it (Blocks, Leads).
pub mod Arranged
pub mod Claims
pub mod Blocks
pub mod Leads
