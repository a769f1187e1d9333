-- What is returned in place of where a packet is.
--     no_place, nonsense_place      of a packet that has no room, and where a call is refused
--     no_first, nonsense_first      of the first packet of an empty queue, and where a call is refused
use Rattle.net_packets.specs.declared.head.FirstPacket.{FirstPacket}
use Rattle.net_packets.specs.declared.head.PacketPlace.{PacketPlace}
use Rattle.net_ffi.specs.Refusals.{no_number}

-- there is no room: indices that no storage has
abbrev pub no_place : PacketPlace
no_place =
    record { gap = 0; gap_slot = no_number; slot = no_number; from = no_number }

-- a call is refused: a gap that no storage has either
abbrev pub nonsense_place : PacketPlace
nonsense_place =
    record { gap = no_number; gap_slot = no_number; slot = no_number; from = no_number }

-- there is no packet: indices that no storage has
abbrev pub no_first : FirstPacket
no_first =
    record { gap = 0; slot = no_number; from = no_number; size = 0 }

-- a call is refused: a gap that no storage has either
abbrev pub nonsense_first : FirstPacket
nonsense_first =
    record { gap = no_number; slot = no_number; from = no_number; size = 0 }
