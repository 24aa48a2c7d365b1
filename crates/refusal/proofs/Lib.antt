pub mod OneToOne
pub mod PlaceLaws
pub mod Rows
