-- The text of a track (Listing) and what is claimed of its length (Claims).
pub mod Listing
pub mod Claims
