-- The text of a board: a header and a line (Lines), the line of a fix by what became of it (Standings), all of a board (Text), of a crew's (Crew), and how that follows
-- from the full one (CrewFromFull), what is claimed of a line (Claims), and of some by example (Worked); the pieces of a line that the code writes (Pieces), and how wide a
-- line can be (Widths).
pub mod Lines
pub mod Standings
pub mod Pieces
pub mod Text
pub mod Crew
pub mod CrewFromFull
pub mod Claims
pub mod Worked
pub mod Widths
