pub mod Words
pub mod Forms
pub mod Parts
pub mod JoiningLaws
pub mod ListingLaws
pub mod MemberLaws
pub mod Lines
pub mod Layout
