-- Segments that have the bytes of one stream, and receivers that took only such segments.
--     MatchesStream f x pos xs      the bytes xs at pos are what the stream x, which begins at f, has there
--     AllMatch f x cs      each segment of the commands has the bytes of x
--     MatchesInWindow f x v pos xs      those bytes have that the free window of v takes
--     AllMatchInWindow N f x v cs      of each segment those have that the free window takes when it arrives
--     ReceivesFrom f x v      the receiver v took only parts of x
--     QueueIsOf x v      the queue is what x has after the bytes that were read
--     window_part v pos xs      the bytes of a segment that the free window of v takes
-- The others are laws: when these hold, what follows from them, and what commands leave. `ReceivesFrom` and those that
-- match are not unfolded by a caller's proofs, which find them by the clauses of the calls and by the laws that make
-- them.
-- Retransmitted segments, segments that together cover a range, and what reads leave.
--     IsHeld v pos xs      all bytes of a segment in the free window are held already
--     HasByteAt v p      the position p is below the first missing one, or is held
--     Brings cs p      a segment of cs contains the position p
-- The others are laws.
use Rattle.std.specs.Prelude.{◌≡◌, ℕ, ◌+◌, ◌-◌, ◌≤◌, List, [], ◌∷◌, ◌++◌, length, take, drop, slice_get, Some, All}
use Rattle.std.specs.Prelude.{◌⊎◌, ◌<◌, min, IsTrue, ◌↔◌}
use Rattle.net_receiver.specs.Schedule.{piece, Setting, KeptState, PieceAgrees, Agrees, piece_byte_at, IsAccepted}
use Rattle.net_receiver.specs.Schedule.{piece_within}
use Rattle.net_receiver.specs.ReceiverState.{CommandValue, Segment, Read, Show, ReceiverState, fresh_receiver}
use Rattle.net_receiver.specs.ReceiverState.{next_position, receiver_after_command, limit_of, Refines, IsSound}
use Rattle.net_receiver.specs.ReceiverState.{receiver_reply, receiver_after_commands, receiver_replies}
use Rattle.net_receiver.specs.ReceiverState.{receiver_after_read}
use Rattle.net_receiver.specs.Headline.{state_from}
use Rattle.std.specs.FinMap as fin

-- ---- the relations
-- a segment has the bytes of x at its positions from f on; the other commands bring no bytes
abbrev pub IsTruthful : ℕ → List ℕ → CommandValue → Type 0
IsTruthful f x (Segment pos xs) = PieceAgrees f x (piece pos xs)
IsTruthful f x (Read count) = Unit {0}
IsTruthful f x Show = Unit {0}

-- a receiver represents a state whose kept list agrees with x
pub record Receives (x : List ℕ) (v : ReceiverState) : Type 0 where
  pub state : KeptState
  pub refines : Refines v state
  pub agrees : Agrees v.first state.kept x

-- the bytes at a position are those that the stream x has there, whose first byte has position f
unfoldable pub MatchesStream : ℕ → List ℕ → ℕ → List ℕ → Type 0
MatchesStream f x pos xs = PieceAgrees f x (piece pos xs)

-- each segment has the bytes of x
unfoldable pub AllMatch : ℕ → List ℕ → List CommandValue → Type 0
AllMatch f x cs = All (IsTruthful f x) cs

-- the bytes of a segment that the free window takes are those that x has there, whatever its other bytes are
unfoldable pub MatchesInWindow : ℕ → List ℕ → ReceiverState → ℕ → List ℕ → Type 0
MatchesInWindow f x v pos xs = PieceAgrees f x (piece_within (next_position v) (limit_of v) (piece pos xs))

-- and so of each segment, in the free window as it is when the segment arrives
unfoldable pub AllMatchInWindow : ℕ → ℕ → List ℕ → ReceiverState → List CommandValue → Type 0
AllMatchInWindow most_runs f x v [] = Unit {0}
AllMatchInWindow most_runs f x v (Segment pos xs ∷ cs) =
    MatchesInWindow f x v pos xs
    × AllMatchInWindow most_runs f x (receiver_after_command most_runs v (Segment pos xs)) cs
AllMatchInWindow most_runs f x v (Read count ∷ cs) =
    AllMatchInWindow most_runs f x (receiver_after_command most_runs v (Read count)) cs
AllMatchInWindow most_runs f x v (Show ∷ cs) = AllMatchInWindow most_runs f x v cs

-- the receiver took only parts of the stream x, whose first byte has position f
unfoldable pub ReceivesFrom : ℕ → List ℕ → ReceiverState → Type 0
ReceivesFrom f x v = (v.first ≡ f) × Receives x v

-- the queue is what x has after the bytes that were read, so those bytes and then the queue are
-- the prefix of x that ends at the first missing position
pub record QueueIsOf (x : List ℕ) (v : ReceiverState) : Type 0 where
  pub within : v.read + length v.queue ≤ length x
  pub queue : v.queue ≡ take (length v.queue) (drop v.read x)
  pub prefix : take v.read x ++ v.queue ≡ take (next_position v - v.first) x
  pub next : v.first ≤ next_position v

-- the bytes of a segment from the first missing position on, as far as the free window goes
abbrev pub window_part : ReceiverState → ℕ → List ℕ → List ℕ
window_part v pos xs = drop (next_position v - pos) (take (limit_of v - pos) xs)

-- ---- when they hold, and what follows
-- a segment that is the stream's bytes at its position matches the stream
abbrev pub MatchesWhatIsThere : Type 0
MatchesWhatIsThere = (f pos : ℕ) (x xs : List ℕ) → f ≤ pos →
    xs ≡ take (length xs) (drop (pos - f) x) → MatchesStream f x pos xs

-- a longer stream has the same there
abbrev pub MatchesLonger : Type 0
MatchesLonger = (f pos : ℕ) (x more xs : List ℕ) → MatchesStream f x pos xs → MatchesStream f (x ++ more) pos xs

-- what the free window takes of a segment that matches
abbrev pub WindowMatches : Type 0
WindowMatches = (f : ℕ) (x : List ℕ) (v : ReceiverState) (pos : ℕ) (xs : List ℕ) →
    MatchesStream f x pos xs → MatchesInWindow f x v pos xs

-- and of one that ends by the first missing position, whatever its bytes are
abbrev pub OldMatches : Type 0
OldMatches = (f : ℕ) (x : List ℕ) (v : ReceiverState) (pos : ℕ) (xs : List ℕ) →
    pos + length xs ≤ next_position v → MatchesInWindow f x v pos xs

-- the empty list of commands
abbrev pub EmptyMatches : Type 0
EmptyMatches = (f : ℕ) (x : List ℕ) → AllMatch f x []

-- a truthful segment before truthful commands
abbrev pub SegmentMatches : Type 0
SegmentMatches = (f : ℕ) (x : List ℕ) (pos : ℕ) (xs : List ℕ) (cs : List CommandValue) →
    MatchesStream f x pos xs → AllMatch f x cs → AllMatch f x (Segment pos xs ∷ cs)

-- a read before truthful commands
abbrev pub ReadMatches : Type 0
ReadMatches = (f : ℕ) (x : List ℕ) (count : ℕ) (cs : List CommandValue) →
    AllMatch f x cs → AllMatch f x (Read count ∷ cs)

-- a show before truthful commands
abbrev pub ShowMatches : Type 0
ShowMatches = (f : ℕ) (x : List ℕ) (cs : List CommandValue) → AllMatch f x cs → AllMatch f x (Show ∷ cs)

-- commands after others
abbrev pub BothMatch : Type 0
BothMatch = (f : ℕ) (x : List ℕ) (cs ds : List CommandValue) →
    AllMatch f x cs → AllMatch f x ds → AllMatch f x (cs ++ ds)

-- what the free window takes of truthful commands
abbrev pub AllMatchThere : Type 0
AllMatchThere = (most_runs f : ℕ) (x : List ℕ) (v : ReceiverState) (cs : List CommandValue) →
    AllMatch f x cs → AllMatchInWindow most_runs f x v cs

-- what a fresh receiver stores
abbrev pub FreshReceivesFrom : Type 0
FreshReceivesFrom = (f : ℕ) (x : List ℕ) (v : ReceiverState) →
    v ≡ fresh_receiver f v.capacity → ReceivesFrom f x v

-- a receiver that represents a kept list which agrees with x
abbrev pub AgreeingReceives : Type 0
AgreeingReceives = (f : ℕ) (x : List ℕ) (v : ReceiverState) (s : KeptState) →
    v.first ≡ f → Refines v s → Agrees f s.kept x → ReceivesFrom f x v

-- what was received of x was received of each longer stream
abbrev pub ReceivesFromLonger : Type 0
ReceivesFromLonger = (f : ℕ) (x more : List ℕ) (v : ReceiverState) →
    ReceivesFrom f x v → ReceivesFrom f (x ++ more) v

-- after a segment that is truthful in the free window the receiver still took only parts of x
abbrev pub SegmentReceives : Type 0
SegmentReceives = (most_runs f : ℕ) (x : List ℕ) (v : ReceiverState) (pos : ℕ) (xs : List ℕ) →
    ReceivesFrom f x v → MatchesInWindow f x v pos xs →
    ReceivesFrom f x (receiver_after_command most_runs v (Segment pos xs))

-- each byte that is held is what x has at its position
abbrev pub HeldIsOfStream : Type 0
HeldIsOfStream = (f : ℕ) (x : List ℕ) (v : ReceiverState) (p b : ℕ) → ReceivesFrom f x v →
    fin.get v.held p ≡ Some b → slice_get x (p - f) ≡ Some b

-- what the queue is
abbrev pub QueueIsOfStream : Type 0
QueueIsOfStream = (f : ℕ) (x : List ℕ) (v : ReceiverState) → ReceivesFrom f x v → QueueIsOf x v

-- a kept list that agrees with x still does after truthful commands, whatever is kept of them
abbrev pub TruthfulIsKept : Type 0
TruthfulIsKept = (w : Setting) (s : KeptState) (x : List ℕ) (cs : List CommandValue) →
    Agrees w.first s.kept x → AllMatch w.first x cs → Agrees w.first (state_from w s cs).kept x

-- ---- what commands change
-- the first position stays
abbrev pub FirstStays : Type 0
FirstStays = (most_runs : ℕ) (v : ReceiverState) (c : CommandValue) →
    (receiver_after_command most_runs v c).first ≡ v.first

-- the first missing position never falls
abbrev pub NextGrows : Type 0
NextGrows = (most_runs : ℕ) (v : ReceiverState) (c : CommandValue) →
    next_position v ≤ next_position (receiver_after_command most_runs v c)

-- and neither does the end of the free window
abbrev pub LimitGrows : Type 0
LimitGrows = (most_runs : ℕ) (v : ReceiverState) (c : CommandValue) →
    limit_of v ≤ limit_of (receiver_after_command most_runs v c)

-- the free window doesn't end before the first missing position
abbrev pub LimitIsAfterNext : Type 0
LimitIsAfterNext = (most_runs : ℕ) (v : ReceiverState) → IsSound most_runs v → next_position v ≤ limit_of v

-- a segment reads nothing
abbrev pub SegmentReadsNothing : Type 0
SegmentReadsNothing = (most_runs : ℕ) (v : ReceiverState) (pos : ℕ) (xs : List ℕ) →
    (receiver_after_command most_runs v (Segment pos xs)).read ≡ v.read

-- the capacity stays
abbrev pub CapacityStays : Type 0
CapacityStays = (most_runs : ℕ) (v : ReceiverState) (c : CommandValue) →
    (receiver_after_command most_runs v c).capacity ≡ v.capacity

-- ---- retransmitted segments
-- each byte of a segment within the free window is held already
abbrev pub IsHeld : ReceiverState → ℕ → List ℕ → Type 0
IsHeld v pos xs = (p b : ℕ) → next_position v ≤ p → p < limit_of v →
    piece_byte_at (piece pos xs) p ≡ Some b → fin.get v.held p ≡ Some b

-- such a segment changes nothing
abbrev pub HeldChangesNothing : Type 0
HeldChangesNothing = (most_runs : ℕ) (v : ReceiverState) (pos : ℕ) (xs : List ℕ) →
    IsSound most_runs v → IsHeld v pos xs → receiver_after_command most_runs v (Segment pos xs) ≡ v

-- the second copy of a segment changes nothing, whatever happened to the first one
abbrev pub SecondCopy : Type 0
SecondCopy = (most_runs : ℕ) (v : ReceiverState) (pos : ℕ) (xs : List ℕ) → IsSound most_runs v →
    let u = receiver_after_command most_runs v (Segment pos xs) in
    receiver_after_command most_runs u (Segment pos xs) ≡ u

-- ---- segments that cover a range
-- a position is below the first missing one, so that it was read or is queued, or is held
abbrev pub HasByteAt : ReceiverState → ℕ → Type 0
HasByteAt v p = (p < next_position v) ⊎ IsTrue (fin.contains_key v.held p)

-- a position that a receiver has stays with it
abbrev pub HasByteStays : Type 0
HasByteStays = (most_runs : ℕ) (v : ReceiverState) (c : CommandValue) (p : ℕ) →
    HasByteAt v p → HasByteAt (receiver_after_command most_runs v c) p

-- an accepted segment brings each of its positions below the end of the free window
abbrev pub AcceptedBrings : Type 0
AcceptedBrings = (most_runs : ℕ) (v : ReceiverState) (pos : ℕ) (xs : List ℕ) (p : ℕ) →
    IsAccepted (receiver_reply most_runs v (Segment pos xs)) →
    pos ≤ p → p < pos + length xs → p < limit_of v →
    HasByteAt (receiver_after_command most_runs v (Segment pos xs)) p

-- if a receiver has each position up to an end, its first missing one is not below that end
abbrev pub HasAllReaches : Type 0
HasAllReaches = (most_runs : ℕ) (v : ReceiverState) (end : ℕ) → IsSound most_runs v →
    ((p : ℕ) → next_position v ≤ p → p < end → HasByteAt v p) → end ≤ next_position v

-- a segment of cs contains p
abbrev pub Brings : List CommandValue → ℕ → Type 0
Brings [] p = ⊥
Brings (Segment pos xs ∷ cs) p = ((pos ≤ p) × (p < pos + length xs)) ⊎ Brings cs p
Brings (Read count ∷ cs) p = Brings cs p
Brings (Show ∷ cs) p = Brings cs p

-- if segments cover all missing positions up to an end within the free window, in any order and
-- however they overlap, and none is refused, the first missing position is then not below that end
abbrev pub Completes : Type 0
Completes = (most_runs : ℕ) (v : ReceiverState) (cs : List CommandValue) (end : ℕ) →
    IsSound most_runs v → end ≤ limit_of v →
    All IsAccepted (receiver_replies most_runs v cs) →
    ((p : ℕ) → next_position v ≤ p → p < end → Brings cs p) →
    end ≤ next_position (receiver_after_commands most_runs v cs)

-- a segment that begins at or below the first missing position moves that to the segment's end, or
-- to the end of the free window
abbrev pub InOrderReaches : Type 0
InOrderReaches = (most_runs : ℕ) (v : ReceiverState) (pos : ℕ) (xs : List ℕ) → pos ≤ next_position v →
    min (pos + length xs) (limit_of v)
    ≤ next_position (receiver_after_command most_runs v (Segment pos xs))

-- ---- What reads leave, of what a receiver stores.
-- a receiver that took only parts of a stream still did after a read
abbrev pub ReadReceives : Type 0
ReadReceives = (f n : ℕ) (x : List ℕ) (v : ReceiverState) →
    ReceivesFrom f x v → ReceivesFrom f x (receiver_after_read v n)

-- the first missing position stays
abbrev pub ReadLeavesNext : Type 0
ReadLeavesNext = (v : ReceiverState) (n : ℕ) → next_position (receiver_after_read v n) ≡ next_position v

-- the receiver has the same positions
abbrev pub ReadLeavesBytes : Type 0
ReadLeavesBytes = (v : ReceiverState) (n p : ℕ) → HasByteAt (receiver_after_read v n) p ↔ HasByteAt v p

-- a read of m bytes and then one of n leave what one of m + n leaves
abbrev pub ReadsAdd : Type 0
ReadsAdd = (v : ReceiverState) (m n : ℕ) →
    receiver_after_read (receiver_after_read v m) n ≡ receiver_after_read v (m + n)

-- and together they give what it gives
abbrev pub ReadsGiveTogether : Type 0
ReadsGiveTogether = (v : ReceiverState) (m n : ℕ) →
    take m v.queue ++ take n (receiver_after_read v m).queue ≡ take (m + n) v.queue
