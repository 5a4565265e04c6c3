-- Which desks there are, what each may do, and what is answered where one may not (Desks), and who may preview a conviction (Previewing).
pub mod Desks
pub mod Previewing
