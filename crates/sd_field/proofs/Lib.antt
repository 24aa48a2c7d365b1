pub mod FieldLaws
pub mod OneOutcome
pub mod Own
pub mod PlaceLaws
