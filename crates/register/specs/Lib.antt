-- The register: its layout (Layout), what it holds and what its operations do (Register), its bytes (Memory), lists of calls (Calls) and what remains of them
-- (Remains), what is claimed of them (Claims) and of a conviction's desk (Checks); what a loop does to a place (Strikes), and the signers that a search finds (Signers).
pub mod Layout
pub mod Register
pub mod Memory
pub mod Strikes
pub mod Signers
pub mod Calls
pub mod Remains
pub mod Claims
pub mod Checks
