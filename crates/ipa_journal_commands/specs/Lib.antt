pub mod AuditTexts
pub mod Journals
pub mod Audits
pub mod Migrations
