pub mod Judging
pub mod Malformed
pub mod Writing
pub mod Taking
pub mod OfTheMachine
