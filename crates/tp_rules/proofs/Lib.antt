pub mod JudgingLaws
pub mod MalformedLaws
pub mod WritingLaws
pub mod TakingLaws
pub mod OfTheMachine
pub mod Unique
