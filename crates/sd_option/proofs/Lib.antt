pub mod KindLaws
pub mod ReadingLaws
pub mod OneAnswer
pub mod ByName
