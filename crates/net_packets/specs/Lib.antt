pub mod Packets
pub mod PacketsHead
pub mod PacketLends
pub mod PacketCalls
pub mod PacketHistory
pub use Packets.*
pub use PacketsHead.*
unfoldable pub use PacketHistory.*
pub use PacketCalls.*
