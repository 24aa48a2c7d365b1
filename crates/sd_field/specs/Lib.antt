pub mod Own
pub mod Said
