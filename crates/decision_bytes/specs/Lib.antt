-- The bytes in which a decision goes out to C: a refusal's layout (Layout), what they are (Answer), where each list begins (Offsets), and that it does (Claims); in which order the code answers (Orders).
pub mod Layout
pub mod Answer
pub mod Offsets
pub mod Claims
pub mod Orders
