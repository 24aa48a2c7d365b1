pub mod Records
pub mod Sums
pub mod Counts
