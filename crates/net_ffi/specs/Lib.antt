pub mod AnswerLimit
pub mod PacketPlaces
pub mod ReceiverParts
pub mod ReceivingEnds
pub mod Refusals
pub mod Results
pub mod Retransmission
pub mod SendingEnds
