pub mod RepairLemmas
pub mod VerdictLemmas
