pub mod WindowFacts
pub mod Timers
pub mod Arrivals
mod Flight
mod Missing
pub mod Passes
pub mod Wrongs
