pub mod Texts
pub mod Heights
pub mod Printed
pub mod Swapped
pub mod Forward
pub mod Sessions
pub mod Named
pub mod Shortest
