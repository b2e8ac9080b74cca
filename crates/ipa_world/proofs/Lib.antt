pub mod EndLemmas
pub mod GiveLemmas
pub mod PlaceLemmas
pub mod ReceiveLemmas
pub mod SeatLemmas
pub mod StandingLemmas
pub mod StartLemmas
pub mod StepLemmas
