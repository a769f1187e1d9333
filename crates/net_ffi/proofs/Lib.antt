pub mod ReceivingEnds
pub mod SendingSteps
pub mod SendingEnds
