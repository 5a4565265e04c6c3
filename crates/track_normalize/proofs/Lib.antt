-- Fixes gathered (Distinct, Gathered), made items (Items), what is kept of them (Lowest, Kept), a further one (Taken, Told), and the claims
-- (Differing, United, Claimed, Validity, Given); and that nothing becomes of those that were kept, all of them, where they are decided again (Settled).
pub mod Distinct
pub mod Gathered
pub mod Lowest
pub mod Kept
pub mod Told
pub mod Taken
pub mod Differing
pub mod United
pub mod Claimed
pub mod Validity
pub mod Given
pub mod Settled
