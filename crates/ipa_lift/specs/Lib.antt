pub mod CutLaws
pub mod StandingLaws
pub mod Meetings
pub mod LiteralLaws
pub mod LossLaws
pub mod Lift
pub mod FollowLaws
pub mod FewDrops
