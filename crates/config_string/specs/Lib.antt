pub mod Classes
pub mod Keys
pub mod Items
