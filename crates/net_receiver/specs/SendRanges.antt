-- What a stream that ends sends, and sends again, where each range that was sent is answered for by itself, as in QUIC.
--     RangesState, new_ranges most first      what is known of its numbers, and of those of a stream to which nothing
--         was written
--     ranges_of acknowledged settled written sent closed      what is known by two sets of numbers
--     end_number b      the number after the last byte's, or after the end's
--     IsSoundRanges b      what is true of each
--     is_open b p      number p is neither acknowledged nor in flight: below what was sent it is lost, else never sent
--     is_lost b p, is_in_flight b p      of what was sent
--     flight_count b p n      how many of the n numbers from p on are in flight
--     is_within from to p      a number of a range
--     NoneIsOpenBelow b n, NoneIsOpen b from to      no number below n is open, or none of a range
--     LacksRoom most s from to      a range isn't added to a set
--     data_top b limit      up to where numbers may be sent, if data may be below a limit
--     IsNext b top size from to      the range to send next
--     runs_beyond s      how many runs a set has beyond its front
--     Loses b from to left      what is left once a range is lost
--     BufferCall, still_marked c p was, marked_by cs p was      what is said of ranges, and whether a number is marked
--         by that, and not lost since
--     Told c b left, AreTold b cs, buffer_after b cs      what a call leaves in flight, and what several leave
--     Board, SendBuffer, IsSoundBuffer      a set whose runs are in storage; numbers and bytes of a stream
-- NothingIsForgotten is a law.
use Rattle.std.specs.Prelude.{◌≡◌, ℕ, ◌+◌, ◌-◌, ◌<◌, ◌≤◌, ◌^◌, min, Bool, not, ◌&&◌, nat_lt, nat_le, IsTrue, IsFalse}
use Rattle.std.specs.Prelude.{if◌then◌else◌, length, zero, suc, false, ◌||◌, List, [], ◌∷◌}
use Rattle.std.specs.Coded.{Coded, coded_ℕ}
use Rattle.std.specs.Int.{from_bool}
use Rattle.std.specs.FinSet as set
use Rattle.net_assembler.specs.Positions.{Positions, contains, front, with_range, nothing, maximal_runs}
use Rattle.net_receiver.specs.Finite.{no_end}
use Rattle.net_receiver.specs.SenderState.{end_of}
use Rattle.net_receiver.specs.FiniteSender.{FiniteSenderState, fresh_finite_sender, first_number}
use Rattle.net_receiver.specs.Scoreboards.{HasNoRoom, IsReport, beyond}

-- the positions as a code
abbrev pub positions_code : Coded Positions
positions_code = set.code coded_ℕ

-- a set of positions, and how many runs it can have beyond its front
pub record Board : Type 0 where
  pub most_runs : ℕ
  pub positions : Positions

-- the number after the last byte's, and whether the stream ends there; the number after the last that was sent; which
-- numbers are acknowledged, and which are settled: sent, and not lost since. What is settled and not acknowledged is in
-- flight. Both sets can have so many runs beyond their fronts
pub record RangesState : Type 0 where
  pub most_runs : ℕ
  pub written : ℕ
  pub closed : Bool
  pub sent : ℕ
  pub acknowledged : Positions
  pub settled : Positions

abbrev pub new_ranges : ℕ → ℕ → RangesState
new_ranges most first = record {
  most_runs = most;
  written = first;
  closed = false;
  sent = first;
  acknowledged = with_range nothing 0 first;
  settled = with_range nothing 0 first;
}

abbrev pub ranges_of : Board → Positions → ℕ → ℕ → Bool → RangesState
ranges_of acknowledged settled written sent closed = record {
  most_runs = acknowledged.most_runs;
  written = written;
  closed = closed;
  sent = sent;
  acknowledged = acknowledged.positions;
  settled = settled;
}

-- the end has the number after the last byte's
abbrev pub end_number : RangesState → ℕ
end_number b = b.written + from_bool b.closed

-- what was sent was written, the end counted, for which there is a number; all that is acknowledged in order is
-- settled; and nothing is acknowledged or settled that was never sent
pub record IsSoundRanges (b : RangesState) : Type 0 where
  pub fits : b.written < no_end
  pub sent : b.sent ≤ end_number b
  pub below : (p : ℕ) → p < front b.acknowledged → IsTrue (contains b.settled p)
  pub acknowledged : (p : ℕ) → IsTrue (contains b.acknowledged p) → p < b.sent
  pub settled : (p : ℕ) → IsTrue (contains b.settled p) → p < b.sent

abbrev pub is_open : RangesState → ℕ → Bool
is_open b p = not (contains b.acknowledged p) && not (contains b.settled p)

abbrev pub is_lost : RangesState → ℕ → Bool
is_lost b p = nat_lt p b.sent && is_open b p

abbrev pub is_in_flight : RangesState → ℕ → Bool
is_in_flight b p = contains b.settled p && not (contains b.acknowledged p)

abbrev pub flight_count : RangesState → ℕ → ℕ → ℕ
flight_count b p zero = 0
flight_count b p (suc n) = from_bool (is_in_flight b p) + flight_count b (p + 1) n

abbrev pub is_within : ℕ → ℕ → ℕ → Bool
is_within from to p = nat_le from p && nat_lt p to

abbrev pub NoneIsOpenBelow : RangesState → ℕ → Type 0
NoneIsOpenBelow b n = (p : ℕ) → p < n → IsFalse (is_open b p)

abbrev pub NoneIsOpen : RangesState → ℕ → ℕ → Type 0
NoneIsOpen b from to = (p : ℕ) → IsTrue (is_within from to p) → IsFalse (is_open b p)

-- it begins beyond the front, and ends too far above that, or with it there would be too many runs
abbrev pub LacksRoom : ℕ → Positions → ℕ → ℕ → Type 0
LacksRoom most s from to =
    (front s < from) × (IsReport (front s) to from to → HasNoRoom most s from (to - from))

-- the end's number isn't data: it may be sent once all data may
abbrev pub data_top : RangesState → ℕ → ℕ
data_top b limit = if nat_le b.written limit then end_number b else limit

-- the range begins at the first open number. All its numbers are open; they are all lost, or were all never sent; and
-- it has at most so many bytes. It could be no longer
pub record IsNext (b : RangesState) (top size from to : ℕ) : Type 0 where
  pub some : from < to
  pub within : to ≤ top
  pub first : NoneIsOpenBelow b from
  pub all_open : (p : ℕ) → from ≤ p → p < to → IsTrue (is_open b p)
  pub one_kind : from < b.sent → to ≤ b.sent
  pub bytes : min to b.written ≤ from + size
  pub whole : to < top → IsTrue (is_open b to) → min (to + 1) b.written ≤ from + size → to ≡ b.sent

-- how many runs a set has beyond its front
abbrev pub runs_beyond : Positions → ℕ
runs_beyond s = length (maximal_runs (beyond s))

-- what was in flight of the range is lost, and what is lost or was never sent stays so; if fewer runs are settled than
-- have room, and less than 2 ^ 32 numbers wait for an answer, nothing else is lost
pub record Loses (b : RangesState) (from to : ℕ) (left : RangesState) : Type 0 where
  pub others : left ≡ record b { settled = left.settled }
  pub lost : (p : ℕ) → from ≤ p → p < to → is_open left p ≡ not (contains b.acknowledged p)
  pub kept : (p : ℕ) → IsTrue (is_open b p) → IsTrue (is_open left p)
  pub room : runs_beyond b.settled < b.most_runs → b.sent < front b.acknowledged + 2 ^ 32 → (p : ℕ) →
      IsFalse (is_within from to p) → is_open left p ≡ is_open b p

-- ---- No number is forgotten.
-- what is said of a range
pub data BufferCall : Type 0 where
  IsMarked : ℕ → ℕ → BufferCall
  IsLost : ℕ → ℕ → BufferCall
  AllLost : BufferCall
  IsOther : BufferCall

-- whether a number was marked and not lost since, if that was so before or not
abbrev pub still_marked : BufferCall → ℕ → Bool → Bool
still_marked (IsMarked from to) p was = was || is_within from to p
still_marked (IsLost from to) p was = was && not (is_within from to p)
still_marked AllLost p was = false
still_marked IsOther p was = was

-- what a call leaves in flight was so before, or is marked by it, and isn't lost by it
abbrev pub Told : BufferCall → RangesState → RangesState → Type 0
Told c b left = (p : ℕ) → IsTrue (is_in_flight left p) → IsTrue (still_marked c p (is_in_flight b p))

-- calls, each with what it leaves
abbrev pub AreTold : RangesState → List (BufferCall × RangesState) → Type 0
AreTold b [] = Unit {0}
AreTold b (c ∷ cs) = Told c.0 b c.1 × AreTold c.1 cs

abbrev pub buffer_after : RangesState → List (BufferCall × RangesState) → RangesState
buffer_after b [] = b
buffer_after b (c ∷ cs) = buffer_after c.1 cs

abbrev pub marked_by : List (BufferCall × RangesState) → ℕ → Bool → Bool
marked_by [] p was = was
marked_by (c ∷ cs) p was = marked_by cs p (still_marked c.0 p was)

-- after every list of calls, each number that was sent is acknowledged, or lost, so that it is sent again, or it was
-- marked and not lost since, so that its answer is to come
abbrev pub NothingIsForgotten : Type 0
NothingIsForgotten = (most first : ℕ) (cs : List (BufferCall × RangesState)) (p : ℕ) →
    let b = new_ranges most first in
    let left = buffer_after b cs in
    AreTold b cs → p < left.sent →
    IsTrue (contains left.acknowledged p || is_lost left p || marked_by cs p false)

-- ---- Numbers and bytes.
-- the bytes and the numbers of a stream
pub record SendBuffer : Type 0 where
  pub sender : FiniteSenderState
  pub ranges : RangesState

abbrev pub new_send_buffer : ℕ → ℕ → ℕ → SendBuffer
new_send_buffer capacity most first = record {
  sender = fresh_finite_sender capacity first;
  ranges = new_ranges most first;
}

-- both have one first number that isn't acknowledged, one last number that was sent, and one end
pub record IsSoundBuffer (b : SendBuffer) : Type 0 where
  pub first : front b.ranges.acknowledged ≡ first_number b.sender
  pub sent : b.ranges.sent ≡ b.sender.sent
  pub written : b.ranges.written ≡ end_of b.sender.sender
  pub closed : from_bool b.ranges.closed ≡ b.sender.closed
