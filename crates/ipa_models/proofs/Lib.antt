pub mod ListingLemmas
pub mod QuestionLemmas
pub mod AnswerLemmas
pub mod FirstLemmas
