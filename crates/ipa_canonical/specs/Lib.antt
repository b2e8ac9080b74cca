pub mod Canonical
pub mod Sentences
pub mod Named
pub mod Shapes
pub mod Alone
pub mod Rereading
pub mod Hidden
pub mod Printable
