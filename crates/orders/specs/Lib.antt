-- Whether the order of calls matters, to a track and to a board (Claims).
pub mod Claims
