pub mod Bytes
pub mod Refusals
pub mod Answers
pub mod Rules
