-- A record made of what it says (Written), what it is known by and its models in a register (Known), what is claimed of them (Claims), and Numbers for the code.
pub mod Written
pub mod Known
pub mod Faults
pub mod Claims
pub mod Numbers
