pub mod JournalLemmas
pub mod OneJournal
pub mod OneAudit
