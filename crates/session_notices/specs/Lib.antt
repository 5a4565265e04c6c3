pub mod Notices
pub mod Told
pub mod Claims
