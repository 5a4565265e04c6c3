-- A transmission and its bytes (Encoding), where its fixes lie (Holding, Reading), a search through them (Searching), how they are written (Writing), other
-- signers put into the bytes (Putting, Signing), and fixes of one identity (Alike).
pub mod Holding
pub mod Encoding
pub mod Searching
pub mod Alike
pub mod Reading
pub mod Writing
pub mod Putting
pub mod Signing
