pub mod Agreement
pub mod Fields
pub mod Numbers
pub mod Carrying
pub mod Refusing
pub mod OneFrame
pub mod Found
