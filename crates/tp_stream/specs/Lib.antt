pub mod Stream
pub mod Telling
pub mod Promises
pub mod AnyOrder
pub mod Record
