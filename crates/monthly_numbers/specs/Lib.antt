-- What became of each record that a register holds (Endings), the numbers of an engine (Numbers), their text (Text), what is claimed of them (Claims), and
-- those of a small register to the letter (Worked); for the code what it keeps of a picture and of a held record (Kept).
pub mod Endings
pub mod Numbers
pub mod Text
pub mod Claims
pub mod Worked
pub mod Kept
