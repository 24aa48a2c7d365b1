pub mod Sized
pub mod Header
pub mod Reads
pub mod FlagsByName
pub mod Parts
pub mod OfTheCode
