pub mod ByName
pub mod Laws
pub mod OneToOne
pub mod Called
