-- Calls of a closure at a packet: at the bytes that it is given, or at its header and bytes; and
-- bytes that are copied out.
--     WritesPacket f q s h k r      what a call of a closure that writes a packet leaves
--     TakesPacket f h ws, GivesAtPacket f h ws r h' ws'      a closure at a header and bytes
--     TakesFirstPacket f q, HandsPacket f q answer r      the same at the first packet of a queue
--     CopiesOut ps h xs k rest ys      the first packet was copied out
use Rattle.std.specs.Prelude.{◌≡◌, ◌≤◌, ℕ, List, [], ◌∷◌, ◌++◌, Result, is_ok, if◌then◌else◌, length, min, take, drop}
use Rattle.std.specs.Borrow.{MutBor}
use Rattle.std.specs.Fn.{Once, FnOnceReturnsAtMut}
use Rattle.net_packets.specs.Packets.{PacketsState, IsRoom, IsFirst, with_packet_if_room, with_last_bytes}
use Rattle.net_packets.specs.Packets.{with_last_size, after_hand_out}
use Rattle.net_packets.specs.PacketHistory.{contents, Makes, EnqueueWith, DequeueWith}

-- ---- the closure writes a new packet
module _ {F H : Type 0}
    (g : Once F (MutBor (List ℕ) × Unit {0}) (ℕ × (MutBor (List ℕ) × Unit {0}))) where
  -- f was lent the bytes room, wrote ws there and returned k: the first k bytes of ws were appended
  -- as a packet, which made r of q
  pub record WritesPacket (f : F) (q : PacketsState H) (s : ℕ) (h : H) (k : ℕ)
      (r : PacketsState H) : Type 0 where
    pub room : List ℕ
    pub bytes : List ℕ
    pub is_room : IsRoom q s h room
    pub met : FnOnceReturnsAtMut g f room k bytes
    pub size : length bytes ≡ s
    pub at_most : k ≤ s
    pub accepted : contents r ≡ contents q ++ ((h, take k bytes) ∷ [])
    pub made : r ≡ with_last_size k (with_last_bytes (with_packet_if_room q s h) bytes)
    pub call : Makes (EnqueueWith h bytes k) q r

-- ---- the closure is handed the first packet
module _ {F H R : Type 0}
    (g : Once F (MutBor H × (MutBor (List ℕ) × Unit {0}))
    (R × (MutBor H × (MutBor (List ℕ) × Unit {0})))) where
  -- f may be called once at a `&mut` to a header and one to bytes
  abbrev pub TakesPacket : F → H → List ℕ → Type 0
  TakesPacket f h ws =
      (x : MutBor H) (y : MutBor (List ℕ)) → x.now ≡ h → y.now ≡ ws → g.pre f (x, (y, tt))

  -- it may give r there, and leave the header h' and the bytes ws'
  pub record GivesAtPacket (f : F) (h : H) (ws : List ℕ) (r : R) (h' : H)
      (ws' : List ℕ) : Type 0 where
    pub header : MutBor H
    pub bytes : MutBor (List ℕ)
    pub shows : (header.now ≡ h) × (bytes.now ≡ ws)
    pub left : MutBor H × (MutBor (List ℕ) × Unit {0})
    pub met : g.post f (header, (bytes, tt)) (r, left)
    pub leaves : (left.0.now ≡ h') × (left.1.0.now ≡ ws')

module _ {F H R E : Type 0}
    (g : Once F (MutBor H × (MutBor (List ℕ) × Unit {0}))
    (Result R E × (MutBor H × (MutBor (List ℕ) × Unit {0})))) where
  -- f may be called once at the first packet
  abbrev pub TakesFirstPacket : F → PacketsState H → Type 0
  TakesFirstPacket f q = (h : H) (bytes : List ℕ) → IsFirst q h bytes → TakesPacket g f h bytes

  -- f was handed the first packet, overwrote its header and bytes and returned: the packet is gone
  -- from r if f returned `Ok`, and otherwise stays as f wrote it
  pub record HandsPacket (f : F) (q : PacketsState H) (answer : Result R E)
      (r : PacketsState H) : Type 0 where
    pub header : H
    pub bytes : List ℕ
    pub new_header : H
    pub new_bytes : List ℕ
    pub first : IsFirst q header bytes
    pub gives : GivesAtPacket g f header bytes answer new_header new_bytes
    pub size : length new_bytes ≡ length bytes
    pub shown : contents q ≡ (header, bytes) ∷ drop 1 (contents q)
    pub left : contents r
        ≡ (if is_ok answer then drop 1 (contents q)
        else ((new_header, new_bytes) ∷ drop 1 (contents q)))
    pub made : r ≡ after_hand_out (is_ok answer) q new_header new_bytes
    pub call : Makes (DequeueWith (is_ok answer) header bytes new_header new_bytes) q r

-- ---- a packet is copied out
-- the first of the packets ps, with the header h, is gone from rest, and as many of its bytes as xs has room for, k of
-- them, were written over the first of xs, which made ys
pub record CopiesOut {H : Type 0} (ps : List (H × List ℕ)) (h : H) (xs : List ℕ) (k : ℕ)
    (rest : List (H × List ℕ)) (ys : List ℕ) : Type 0 where
  pub bytes : List ℕ
  pub first : ps ≡ (h, bytes) ∷ rest
  pub count : k ≡ min (length bytes) (length xs)
  pub copied : ys ≡ take k bytes ++ drop k xs
