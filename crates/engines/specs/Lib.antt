-- Which numbers are an engine's (Limits).
pub mod Limits
