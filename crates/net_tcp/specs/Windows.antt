-- The windows of both sides, and which arriving segments are acceptable (RFC 9293, section 3.10.7.4; RFC 7323, section
-- 2), where positions don't wrap.
--     IsWithin next window pos      the window of `window` positions from next on contains pos
--     IsInTable      the four cases of the RFC's table
--     Meets a m b n      the m positions from a on and the n positions from b on have one in common
--     IsAcceptable      the segment's positions meet the window
--     flag_at k flags      the bit k of TCP's flags, in which FIN is 0, SYN 1, RST 2 and ACK 4
--     IsProbe      its first position is the one at which the window is shut
--     IsAtEdge, IsBehind      it has no position, and its number is the window's edge, or a little below next
--     IsTaken, IsHeard      it is taken; what it acknowledges is taken, and it is answered
--     IsAnswered, IsIgnored      nothing of it is taken, and it is answered by an acknowledgement, or by nothing
--     IsArrival ..answers next window most s a      a is what to do with it, of five answers
--     shift_count scale      the scale that counts: in place of one above 14 it is 14 (RFC 7323, section 2.3)
--     field_for scale free      the number announced if `free` positions are free
--     announced next scale field      the right edge that it promises, with this first missing position
--     IsScaleFor capacity scale      the least scale by which a capacity can be announced
--     worth capacity mss, gain edge scale next end      how far the edge must move for an update of its own, and would
--     IsNotOlder w seq ack      the segment of these numbers is not older than the one that w is from
--     Replaces w seq ack      it is not older, or acknowledges more
--     window_from seq ack window      the window that a segment leaves
--     with_segment w seq ack window      the window after a segment
--     after_update w first sent seq ack window      the window that `update` leaves
--     empty_segment_position w first sent      the number of a segment without positions
--     BothEnds w first sent next edge most      what the two ends know of one another
--     Announcement, Heard      an arriving segment; what a sender heard so far
--     heard h s, heard_all h ss      what it heard after one more, and after a list
use Rattle.std.specs.Prelude.{◌≡◌, ◌≢◌, ◌↔◌, ℕ, zero, suc, ◌+◌, ◌-◌, ◌*◌, ◌/◌, ◌%◌, ◌^◌, ◌<◌, ◌≤◌, ◌⊎◌, ◌||◌, ◌&&◌}
use Rattle.std.specs.Prelude.{◌==◌, nat_lt, nat_le, if◌then◌else◌, Bool, IsTrue, IsFalse, min, max, List, [], ◌∷◌}
use Rattle.net_tcp.specs.declared.arriving.Segment.{Segment}
use Rattle.net_tcp.specs.declared.peer_window.PeerWindow.{PeerWindow}

-- ---- arriving segments
abbrev pub IsWithin : ℕ → ℕ → ℕ → Type 0
IsWithin next window pos = (next ≤ pos) × (pos < next + window)

-- next, the window's size, the first position of the segment, and how many it has
abbrev pub IsInTable : ℕ → ℕ → ℕ → ℕ → Type 0
IsInTable next zero seq zero = seq ≡ next
IsInTable next (suc w) seq zero = IsWithin next (suc w) seq
IsInTable next zero seq (suc n) = ⊥
IsInTable next (suc w) seq (suc n) = IsWithin next (suc w) seq ⊎ IsWithin next (suc w) (seq + n)

abbrev pub Meets : ℕ → ℕ → ℕ → ℕ → Type 0
Meets a m b n = (p : ℕ) × IsWithin a m p × IsWithin b n p

-- of a segment without positions its number must be within the window, or be next if the window is empty
abbrev pub IsAcceptable : ℕ → ℕ → ℕ → ℕ → Type 0
IsAcceptable next zero seq zero = seq ≡ next
IsAcceptable next (suc w) seq zero = IsWithin next (suc w) seq
IsAcceptable next window seq (suc n) = Meets next window seq (suc n)

abbrev pub flag_at : ℕ → ℕ → ℕ
flag_at k flags = flags / 2 ^ k % 2

-- the RFC's special allowance for a window of no positions, in which no segment with any is acceptable
abbrev pub IsProbe : ℕ → ℕ → ℕ → ℕ → Type 0
IsProbe next window seq len = (window ≡ 0) × (seq ≡ next) × (0 < len)

-- all of the window was sent, and some of it is missing: then a segment without positions has the number after it
abbrev pub IsAtEdge : ℕ → ℕ → ℕ → ℕ → Type 0
IsAtEdge next window seq len = (len ≡ 0) × (seq ≡ next + window)

-- a segment without positions of a peer that doesn't know yet that all below next has come, or that sees the window
-- end below what it sent, as by a probe. `most` is the greatest window that was ever announced: no peer has more
-- on the way, but one that probes a window of no positions
abbrev pub IsBehind : ℕ → ℕ → ℕ → ℕ → Type 0
IsBehind next most seq len = (len ≡ 0) × (seq < next) × (next ≤ seq + max 1 most)

abbrev pub IsTaken : ℕ → ℕ → ℕ → ℕ → Type 0
IsTaken next window seq len = IsAcceptable next window seq len ⊎ IsAtEdge next window seq len

abbrev pub IsHeard : ℕ → ℕ → ℕ → ℕ → ℕ → Type 0
IsHeard next window most seq len = IsProbe next window seq len ⊎ IsBehind next most seq len

-- a reset that would be taken, but isn't at next; a SYN; and what is neither taken nor heard
abbrev pub IsAnswered : ℕ → ℕ → ℕ → Segment → Type 0
IsAnswered next window most s =
    (IsTrue s.rst × (s.seq ≢ next) × IsTaken next window s.seq s.len)
    ⊎ (IsFalse s.rst × (IsTrue s.syn
    ⊎ ((¬ IsTaken next window s.seq s.len) × (¬ IsHeard next window most s.seq s.len))))

-- another reset; and what acknowledges nothing
abbrev pub IsIgnored : ℕ → ℕ → ℕ → Segment → Type 0
IsIgnored next window most s =
    (IsTrue s.rst × (s.seq ≢ next) × (¬ IsTaken next window s.seq s.len))
    ⊎ (IsFalse s.rst × IsFalse s.syn × IsFalse s.ack
    × (IsTaken next window s.seq s.len ⊎ IsHeard next window most s.seq s.len))

-- each of five answers exactly where its rule says
pub record IsArrival {A : Type 0} (takes acknowledges answers resets ignores : A) (next window most : ℕ)
    (s : Segment) (a : A) : Type 0 where
  pub take : (a ≡ takes) ↔ (IsFalse s.rst × IsFalse s.syn × IsTrue s.ack × IsTaken next window s.seq s.len)
  pub only : (a ≡ acknowledges)
      ↔ (IsFalse s.rst × IsFalse s.syn × IsTrue s.ack × IsHeard next window most s.seq s.len)
  pub answer : (a ≡ answers) ↔ IsAnswered next window most s
  pub reset : (a ≡ resets) ↔ (IsTrue s.rst × (s.seq ≡ next))
  pub ignored : (a ≡ ignores) ↔ IsIgnored next window most s

-- ---- the window that a receiver announces
abbrev pub shift_count : ℕ → ℕ
shift_count scale = min scale 14

abbrev pub field_for : ℕ → ℕ → ℕ
field_for scale free = min (free / 2 ^ scale) 65535

abbrev pub announced : ℕ → ℕ → ℕ → ℕ
announced next scale field = next + field * 2 ^ scale

pub record IsScaleFor (capacity scale : ℕ) : Type 0 where
  pub most : scale ≤ 14
  pub fits : (capacity / 2 ^ scale ≤ 65535) ⊎ (scale ≡ 14)
  pub least : (k : ℕ) → k < scale → 65535 < capacity / 2 ^ k

-- half of the capacity, rounded up, or one segment; and at least 1 (RFC 9293, section 3.8.6.2.2)
abbrev pub worth : ℕ → ℕ → ℕ
worth capacity mss = max 1 (min (capacity - capacity / 2) mss)

-- how far the edge would move
abbrev pub gain : ℕ → ℕ → ℕ → ℕ → ℕ
gain edge scale next window_end = announced next scale (field_for scale (window_end - next)) - edge

-- ---- the window that the peer announced
-- the RFC's SND.WL1 is w.seq, and its SND.WL2 is w.ack
abbrev pub IsNotOlder : PeerWindow → ℕ → ℕ → Type 0
IsNotOlder w seq ack = (w.seq < seq) ⊎ ((w.seq ≡ seq) × (w.ack ≤ ack))

abbrev pub is_not_older : PeerWindow → ℕ → ℕ → Bool
is_not_older w seq ack = nat_lt w.seq seq || ((w.seq == seq) && nat_le w.ack ack)

-- a segment that acknowledges more was sent later, whatever its number is. The RFC has only IsNotOlder, by
-- which one forged segment ahead of all others shuts out each later one
abbrev pub Replaces : PeerWindow → ℕ → ℕ → Type 0
Replaces w seq ack = (w.ack < ack) ⊎ IsNotOlder w seq ack

abbrev pub replaces : PeerWindow → ℕ → ℕ → Bool
replaces w seq ack = nat_lt w.ack ack || is_not_older w seq ack

-- its edge is a position, so it is at most the last one
abbrev pub window_from : ℕ → ℕ → ℕ → PeerWindow
window_from seq ack window = record { edge = min (ack + window) (2 ^ 64 - 1); seq = seq; ack = ack }

abbrev pub with_segment : PeerWindow → ℕ → ℕ → ℕ → PeerWindow
with_segment w seq ack window = if replaces w seq ack then window_from seq ack window else w

-- the window after `update`: as it was, if what the segment acknowledges is below first or above sent
abbrev pub after_update : PeerWindow → ℕ → ℕ → ℕ → ℕ → ℕ → PeerWindow
after_update w first sent seq ack window = if nat_le first ack && nat_le ack sent then with_segment w seq ack window
    else w

-- what was sent, but not beyond the window, nor below first
abbrev pub empty_segment_position : PeerWindow → ℕ → ℕ → ℕ
empty_segment_position w first sent = min sent (max w.edge first)

-- the window whose numbers are 0
abbrev pub no_window : PeerWindow
no_window = record { edge = 0; seq = 0; ack = 0 }

-- the two ends: the sender was told of an edge that was promised, and of no position that hasn't come, and has no more
-- on the way than the greatest window, or a probe; the receiver has nothing that wasn't sent
pub record BothEnds (w : PeerWindow) (first sent next edge most : ℕ) : Type 0 where
  pub told : w.edge ≤ edge
  pub begun : first ≤ edge
  pub come : next ≤ sent
  pub sends : sent ≤ first + max 1 most

-- ---- segments, one after another
-- the numbers of an acceptable segment, and the end of what was sent when it came
pub record Announcement : Type 0 where
  pub seq : ℕ
  pub ack : ℕ
  pub window : ℕ
  pub sent : ℕ

-- the window, and the first position that isn't acknowledged
pub record Heard : Type 0 where
  pub peer : PeerWindow
  pub first : ℕ

-- the sender takes what a segment acknowledges
abbrev pub acknowledged : Heard → Announcement → Heard
acknowledged h s = if nat_le h.first s.ack && nat_le s.ack s.sent then record h { first = s.ack } else h

-- `update` takes the window that it announces
abbrev pub updated : Heard → Announcement → Heard
updated h s = record h { peer = after_update h.peer h.first s.sent s.seq s.ack s.window }

abbrev pub heard : Heard → Announcement → Heard
heard h s = acknowledged (updated h s) s

abbrev pub heard_all : Heard → List Announcement → Heard
heard_all h [] = h
heard_all h (s ∷ more) = heard_all (heard h s) more

-- neither number of s is above that of t, and s says nothing else if both are the same: so it is of two segments with
-- something new that a peer sent in this order, and not of a copy of what was lost nor of a window that is told anew
pub record IsNoLater (s t : Announcement) : Type 0 where
  pub seq : s.seq ≤ t.seq
  pub ack : s.ack ≤ t.ack
  pub same : s.seq ≡ t.seq → s.ack ≡ t.ack → s.window ≡ t.window

-- as far as its numbers say, s was sent no later than t: it acknowledges less, whatever its number is, as a copy of
-- what was lost; or as much, its number is not above that of t, and it says nothing else if both numbers are the same
abbrev pub IsNoNewer : Announcement → Announcement → Type 0
IsNoNewer s t = (s.ack < t.ack)
    ⊎ ((s.ack ≡ t.ack) × (s.seq ≤ t.seq) × (s.seq ≡ t.seq → s.window ≡ t.window))

-- what was heard is from no newer segment
abbrev pub IsFromNoNewer : Heard → Announcement → Type 0
IsFromNoNewer h t = (h.first ≤ t.ack)
    × ((h.peer.ack < t.ack) ⊎ ((h.peer.ack ≡ t.ack) × (h.peer.seq ≤ t.seq)))
