pub mod ByName
pub mod Said
pub mod Steps
pub mod Types
