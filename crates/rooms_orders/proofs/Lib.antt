mod Rearranged
mod Loops
mod Performed
mod Held
mod Turns
mod Written
