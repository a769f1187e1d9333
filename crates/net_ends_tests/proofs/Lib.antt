pub mod EndFacts
pub mod PathFacts
pub mod TextFacts
