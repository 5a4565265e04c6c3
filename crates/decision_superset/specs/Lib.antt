-- What comparing two records finds (Supersets).
pub mod Supersets
