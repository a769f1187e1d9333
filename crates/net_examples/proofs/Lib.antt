pub mod FrameFacts
pub mod SendingFacts
