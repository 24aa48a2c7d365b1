pub mod TestLaws
pub mod AnswerLaws
pub mod ByteLaws
pub mod RuleLaws
