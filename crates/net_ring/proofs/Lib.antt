pub mod Rotations
pub mod RingFacts
pub mod RingOrder
pub mod Walks
pub mod SplitNumbers
pub mod SplitSteps
pub mod SplitWrites
