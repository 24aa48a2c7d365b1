pub mod ClassLaws
pub mod KeyLaws
pub mod ItemLaws
pub mod ItemsHanded
pub mod ItemsFollow
pub mod OneAnswer
