pub mod Cases
pub mod PartLaws
