pub mod ValuesLemmas
pub mod ClausesLemmas
pub mod TestsLemmas
pub mod ApplicationLemmas
pub mod RangeLemmas
