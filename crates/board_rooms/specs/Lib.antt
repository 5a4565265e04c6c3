-- What is claimed of the boards of rooms that join one another (Claims).
pub mod Claims
