-- Which fixes of a board are one transmission: when two fixes link and what is linked through any chain (Transmissions, Chains, Claims), and what the limit in time of a
-- link comes to (Bursts); and how the code finds it, by indices: links in a list (Links), the walk (Walk), and the table that it fills (Labels).
pub mod Links
pub mod Transmissions
pub mod Chains
pub mod Positions
pub mod Claims
pub mod Bursts
pub mod Walk
pub mod Labels
