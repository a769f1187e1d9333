pub mod PacketSteps
mod HeadParts
mod HeadQueue
pub mod PacketOrder
mod QueueWalks
