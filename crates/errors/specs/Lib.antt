-- What an operation answers and leaves (After), and the numbers of what is refused, with the greatest of them (Errors).
pub mod After
pub mod Errors
