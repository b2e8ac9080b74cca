mod OverfillLemmas
mod AfterLemmas
