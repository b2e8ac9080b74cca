pub mod Statuses
pub mod Verdicts
pub mod Answers
pub mod Steps
pub mod StepLaws
pub mod AnswerLaws
pub mod VerdictLaws
