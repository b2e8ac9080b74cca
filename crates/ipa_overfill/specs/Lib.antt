pub mod Overfills
pub mod CalmLaws
