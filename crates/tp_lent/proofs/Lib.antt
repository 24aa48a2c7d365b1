pub mod PlaceLaws
pub mod RisingLaws
pub mod FrontLaws
pub mod ReadyLaws
pub mod PlanLaws
pub mod CallLaws
pub mod OrderMeans
pub mod Unique
