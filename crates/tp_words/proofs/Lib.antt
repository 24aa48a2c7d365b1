pub mod WordLaws
pub mod PutLaws
pub mod FirstLaws
pub mod Holding
