pub mod Words
pub mod Holding
