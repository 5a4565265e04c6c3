-- What is shown of a register (Picture); and how the code keeps it: the lines of a transmission (Lines), and where in a list of lines each has its own, and their
-- order (Parts).
pub mod Picture
pub mod Lines
pub mod Parts
