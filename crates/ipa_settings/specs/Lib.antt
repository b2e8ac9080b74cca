pub mod DocumentSettings
