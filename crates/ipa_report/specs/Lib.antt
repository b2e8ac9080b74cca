pub mod Elements
pub mod Reports
pub mod Refusals
pub mod RepairTexts
pub mod Summaries
