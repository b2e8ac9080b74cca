pub mod PlaceLemmas
pub mod GroundLemmas
pub mod FormulaLemmas
pub mod InstanceLemmas
pub mod PatternOrder
pub mod CursorLemmas
pub mod PatternsLemmas
pub mod CountLemmas
