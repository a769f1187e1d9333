pub mod AnswerLimit
pub mod Sack
pub mod Windows
pub mod Estimate
pub mod Retransmission
pub mod LossRecovery
