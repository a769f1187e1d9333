-- Devices and their frames: checksums, capabilities with the sizes that they give, in bytes, metadata, and the loopback
-- device as its users see it.
--     is_verified c, is_computed c      whether the stack verifies a checksum, and whether it computes it
--     no_checksums, all_checksums      the stack does neither for any protocol, or both for each
--     header_len medium      the header before an IP packet
--     HasIpMtu c, ip_mtu_of c      there is a longest IP packet, and its size
--     FitsIpHeader c n, fragment_size_of c n      there is a longest payload of a fragment, and its size
--     no_segmentation, default_capabilities, no_metadata      values that contracts name
--     LoopbackState, frames_of buffers      a medium and the frames that wait, and the bytes of each buffer
--     loopback_capabilities medium      what the device can do
use Rattle.std.specs.Prelude.{Bool, true, false, ℕ, ◌-◌, ◌%◌, ◌≤◌, List, map, Vec, None}
use Rattle.net_base.specs.declared.phy.Checksum.{Checksum}
use Rattle.net_base.specs.declared.phy.Checksum.TheVariants.{Both, Rx, Tx}
use Rattle.net_base.specs.declared.phy.Checksum.TheVariants as checksum
use Rattle.net_base.specs.declared.phy.ChecksumCapabilities.{ChecksumCapabilities}
use Rattle.net_base.specs.declared.phy.Medium.{Medium}
use Rattle.net_base.specs.declared.phy.Medium.TheVariants.{Ethernet, Ip}
use Rattle.net_base.specs.declared.phy.SegmentationCapabilities.{SegmentationCapabilities}
use Rattle.net_base.specs.declared.phy.DeviceCapabilities.{DeviceCapabilities}
use Rattle.net_base.specs.declared.phy.PacketMeta.{PacketMeta}

-- ---- checksums
-- whether checksums are verified when receiving
abbrev pub is_verified : Checksum → Bool
is_verified Both = true
is_verified Rx = true
is_verified _ = false

-- whether checksums are computed when sending
abbrev pub is_computed : Checksum → Bool
is_computed Both = true
is_computed Tx = true
is_computed _ = false

-- no checksum of any protocol is verified or computed
abbrev pub no_checksums : ChecksumCapabilities
no_checksums = record {
  ipv4 = checksum.None;
  udp = checksum.None;
  tcp = checksum.None;
  icmpv4 = checksum.None;
  icmpv6 = checksum.None;
}

-- the checksums of all protocols are verified and computed
abbrev pub all_checksums : ChecksumCapabilities
all_checksums = record { ipv4 = Both; udp = Both; tcp = Both; icmpv4 = Both; icmpv6 = Both }

-- ---- capabilities
-- the length of the header before an IP packet
abbrev pub header_len : Medium → ℕ
header_len Ethernet = 14
header_len Ip = 0

-- a frame has room for the header of its medium
abbrev pub HasIpMtu : DeviceCapabilities → Type 0
HasIpMtu c = header_len c.medium ≤ c.max_transmission_unit

-- the longest IP packet: a frame without that header
abbrev pub ip_mtu_of : DeviceCapabilities → ℕ
ip_mtu_of c = c.max_transmission_unit - header_len c.medium

-- an IP packet has room for an IP header of n bytes
abbrev pub FitsIpHeader : DeviceCapabilities → ℕ → Type 0
FitsIpHeader c n = HasIpMtu c × (n ≤ ip_mtu_of c)

-- the longest payload of a fragment: the rest of the packet after an IP header of n bytes, down to a multiple
-- of 8
abbrev pub fragment_size_of : DeviceCapabilities → ℕ → ℕ
fragment_size_of c n = (ip_mtu_of c - n) - (ip_mtu_of c - n) % 8

-- no segments are cut
abbrev pub no_segmentation : SegmentationCapabilities
no_segmentation = record { tcpv4 = None; tcpv6 = None }

-- a device of which nothing is known
abbrev pub default_capabilities : DeviceCapabilities
default_capabilities =
    record {
      medium = Ethernet;
      max_transmission_unit = 0;
      max_burst_size = None;
      checksum = all_checksums;
      segmentation = no_segmentation;
    }

-- ---- frames
-- the default metadata of a packet
abbrev pub no_metadata : PacketMeta
no_metadata = record { id = 0; segmentation_offload_size = None }

-- ---- the loopback device
-- the medium, and the frames that wait, the next first
pub record LoopbackState : Type 0 where
  pub medium : Medium
  pub frames : List (List ℕ)

-- the bytes of each buffer
abbrev pub frames_of : {A : Type 0} → List (Vec ℕ A) → List (List ℕ)
frames_of {A} buffers = map (λ (b : Vec ℕ A). b.items) buffers

-- frames of 65535 bytes, no checksums, no limit on bursts and no segmentation
abbrev pub loopback_capabilities : Medium → DeviceCapabilities
loopback_capabilities m =
    record {
      medium = m;
      max_transmission_unit = 65535;
      max_burst_size = None;
      checksum = no_checksums;
      segmentation = no_segmentation;
    }
