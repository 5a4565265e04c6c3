-- Binary64 numbers (Numbers), sine and cosine (Angles), positions (Geodesy), the Cholesky factor (Linalg) and how it is worked out (Factors): what agreement
-- rests on. The formula with a division that rounds down (Formula), and what is claimed of them (Claims).
pub mod Numbers
pub mod Angles
pub mod Formula
pub mod Geodesy
pub mod Linalg
pub mod Factors
pub mod Claims
