pub mod PartLemmas
pub mod ReadingLemmas
pub mod FactLemmas
pub mod CountLemmas
pub mod StartLemmas
pub mod OneReading
