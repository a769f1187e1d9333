-- The packets of a queue as its callers see them, and over many calls.
--     contents q      the headers and bytes of a queue's packets
--     head_bytes ps      the bytes of the first of these
--     with_bytes_in_last_entry bytes ps      the last of these has other bytes
--     QueueCall H, Makes call q r, MakesAll calls q r      what one call did, and what calls make
--     log_after call log, log_after_all calls log, history calls      the log after calls
-- And a queue whose oldest packets were dropped, in words that proofs keep as names.
--     without_oldest q      the queue once its first packet is taken off, with the gap before it
--     after_drops k q      the queue once its k first packets are taken off
--     HasNoRoom q s      a packet of s bytes is refused
--     HasNoRoomBefore k q s      it is refused after each number of drops below k
use Rattle.std.specs.Prelude.{Bool, if◌then◌else◌, ◌≡◌, ◌≢◌, ◌≤◌, ℕ, ◌+◌, List, [], ◌∷◌, length, take, drop, set, zero}
use Rattle.std.specs.Prelude.{suc, ◌<◌}
use Rattle.std.specs.declared.option.Option.TheVariants.{None}
use Rattle.net_ring.specs.Ring.{queue}
use Rattle.net_ring.specs.Log.{Log, empty_log, log_accepted, log_left, log_dropped}
use Rattle.net_packets.specs.Packets.{Packet, PacketsState, no_packets, byte_ring, placement, with_packet_if_room}
use Rattle.net_packets.specs.Packets.{only_last, last_bytes, with_last_bytes, with_last_size, with_packet_of}
use Rattle.net_packets.specs.Packets.{first_size, without_gap, with_first_bytes, IsFirst, without_first}
use Rattle.net_packets.specs.Packets.{without_first_and_gap, last_dequeued_bytes_index, AreLastDequeued, with_bytes}

module _ {H : Type 0} where
  -- the headers and bytes of packets whose bytes, gaps among them, are bs
  abbrev pub contents_of : List (Packet H) → List ℕ → List (H × List ℕ)
  contents_of [] bs = []
  contents_of (p ∷ ps) bs =
      (p.header, take p.size (drop p.gap bs)) ∷ contents_of ps (drop (p.gap + p.size) bs)

  -- the headers and bytes of the packets of a queue, the first one first
  unfoldable pub contents : PacketsState H → List (H × List ℕ)
  contents q = contents_of q.packets (queue (byte_ring q))

  -- the bytes of the first of these, or none if there is no first
  abbrev pub head_bytes : List (H × List ℕ) → List ℕ
  head_bytes [] = []
  head_bytes (p ∷ ps) = p.1

-- ---- calls
-- what one call did, with the headers and bytes that it was given, wrote or handed out. A call that
-- returns `Full` or `Empty` changes nothing and is no call here; nor is `last_mut` if there are no
-- packets
pub data QueueCall (H : Type 0) : Type 0 where
  -- `reset`
  Reset : QueueCall H
  -- `place`: the header, and the bytes that are in the storage
  Place : H → List ℕ → QueueCall H
  -- `last_mut`: the bytes that were written
  WriteLast : List ℕ → QueueCall H
  -- `enqueue`: the header, and the bytes that were written
  Enqueue : H → List ℕ → QueueCall H
  -- `enqueue_with_infallible`: the header, the bytes that the closure wrote, and how many of them
  -- are the packet
  EnqueueWith : H → List ℕ → ℕ → QueueCall H
  -- `peek`
  Peek : QueueCall H
  -- `dequeue_with`, whose closure returned `Err`: the header and the bytes that it wrote
  DequeueErr : H → List ℕ → QueueCall H
  -- `dequeue_with`, whose closure returned `Ok`: the header and the bytes that it was shown, and
  -- those that it wrote
  DequeueOk : H → List ℕ → H → List ℕ → QueueCall H
  -- `take`: the header and the bytes that were taken off
  Take : H → List ℕ → QueueCall H
  -- `last_dequeued_mut`: the bytes that were written
  WriteLastDequeued : List ℕ → QueueCall H
  -- `dequeue`: the header and the bytes that were handed out, and the bytes that were then written
  Dequeue : H → List ℕ → List ℕ → QueueCall H

module _ {H : Type 0} where
  -- the call makes r of q, as its contract says
  abbrev pub Makes : QueueCall H → PacketsState H → PacketsState H → Type 0
  Makes Reset q r = r ≡ no_packets q.slot_count q.storage
  Makes (Place header bytes) q r =
      (placement q (length bytes) ≢ None) × (r ≡ with_packet_if_room q (length bytes) header)
      × (bytes ≡ last_bytes r)
  Makes (WriteLast bytes) q r =
      (q.packets ≢ []) × (length bytes ≡ first_size (only_last q.packets))
      × (r ≡ with_last_bytes q bytes)
  Makes (Enqueue header bytes) q r =
      (placement q (length bytes) ≢ None) × (r ≡ with_packet_of q header bytes)
  Makes (EnqueueWith header bytes count) q r =
      (placement q (length bytes) ≢ None) × (count ≤ length bytes)
      × (r ≡ with_last_size count (with_last_bytes (with_packet_if_room q (length bytes) header) bytes))
  Makes Peek q r = r ≡ without_gap q
  Makes (DequeueErr after written) q r =
      (q.packets ≢ []) × (length written ≡ first_size q.packets)
      × (r ≡ with_first_bytes (without_gap q) after written)
  Makes (DequeueOk header bytes after written) q r =
      IsFirst q header bytes × (length written ≡ length bytes)
      × (r ≡ without_first (with_first_bytes (without_gap q) after written))
  Makes (Take header bytes) q r = IsFirst q header bytes × (r ≡ without_first_and_gap q)
  Makes (WriteLastDequeued bytes) q r =
      AreLastDequeued q (length bytes) × (r ≡ with_bytes q (last_dequeued_bytes_index q (length bytes)) bytes)
  Makes (Dequeue header bytes written) q r =
      IsFirst q header bytes × (length written ≡ length bytes)
      × (r ≡ with_bytes (without_first_and_gap q) (without_gap q).read_at written)

  -- `dequeue_with`, whose closure returned `Ok` if gone is true, and otherwise `Err`
  abbrev pub DequeueWith : Bool → H → List ℕ → H → List ℕ → QueueCall H
  DequeueWith gone header bytes after written =
      if gone then DequeueOk header bytes after written else DequeueErr after written

  -- the calls, one after another, make r of q
  abbrev pub MakesAll : List (QueueCall H) → PacketsState H → PacketsState H → Type 0
  MakesAll [] q r = r ≡ q
  MakesAll (call ∷ calls) q r = (next : PacketsState H) × Makes call q next × MakesAll calls next r

-- ---- what was accepted and what left: packets, each with its header and bytes
module _ {H : Type 0} where
  -- the last packet has these bytes
  abbrev pub with_bytes_in_last_entry : List ℕ → List (H × List ℕ) → List (H × List ℕ)
  with_bytes_in_last_entry bytes [] = []
  with_bytes_in_last_entry bytes (p ∷ []) = (p.0, bytes) ∷ []
  with_bytes_in_last_entry bytes (p ∷ (o ∷ ps)) = p ∷ with_bytes_in_last_entry bytes (o ∷ ps)

  -- the log after a call. What `reset` drops counts as never accepted. The packet that a closure
  -- refuses is the first one that has not left
  abbrev pub log_after : QueueCall H → Log (H × List ℕ) → Log (H × List ℕ)
  log_after Reset log = log_dropped log
  log_after (Place header bytes) log = log_accepted ((header, bytes) ∷ []) log
  log_after (WriteLast bytes) log =
      record { accepted = with_bytes_in_last_entry bytes log.accepted; left = log.left }
  log_after (Enqueue header bytes) log = log_accepted ((header, bytes) ∷ []) log
  log_after (EnqueueWith header bytes count) log = log_accepted ((header, take count bytes) ∷ []) log
  log_after Peek log = log
  log_after (DequeueErr after written) log =
      record { accepted = set log.accepted (length log.left) (after, written); left = log.left }
  log_after (DequeueOk header bytes after written) log = log_left ((header, bytes) ∷ []) log
  log_after (Take header bytes) log = log_left ((header, bytes) ∷ []) log
  log_after (WriteLastDequeued bytes) log = log
  log_after (Dequeue header bytes written) log = log_left ((header, bytes) ∷ []) log

  -- the log after calls, one after another
  abbrev pub log_after_all : List (QueueCall H) → Log (H × List ℕ) → Log (H × List ℕ)
  log_after_all [] log = log
  log_after_all (call ∷ calls) log = log_after_all calls (log_after call log)

  -- the log of calls from a new queue on
  abbrev pub history : List (QueueCall H) → Log (H × List ℕ)
  history calls = log_after_all calls empty_log

-- ---- a queue whose oldest packets were dropped
unfoldable pub without_oldest : {H : Type 0} → PacketsState H → PacketsState H
without_oldest q = without_first_and_gap q

unfoldable pub after_drops : {H : Type 0} → ℕ → PacketsState H → PacketsState H
after_drops zero q = q
after_drops (suc k) q = without_oldest (after_drops k q)

unfoldable pub HasNoRoom : {H : Type 0} → PacketsState H → ℕ → Type 0
HasNoRoom q s = placement q s ≡ None

unfoldable pub HasNoRoomBefore : {H : Type 0} → ℕ → PacketsState H → ℕ → Type 0
HasNoRoomBefore k q s = (j : ℕ) → j < k → HasNoRoom (after_drops j q) s
