-- Agreement: what it is (Agree), what is answered of it (Answers), how a chi-square is stored (Bits), what agreement was with an infinity for no number (Before), what is claimed of
-- it (Claims), and how it is worked out (Stages).
pub mod Agree
pub mod Answers
pub mod Bits
pub mod Before
pub mod Claims
pub mod Stages
