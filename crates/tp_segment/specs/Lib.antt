pub mod Reading
pub mod ByName
