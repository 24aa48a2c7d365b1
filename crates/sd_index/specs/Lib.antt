pub mod Permission
pub mod Indexed
pub mod Found
pub mod Steps
