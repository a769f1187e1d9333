-- The ranges of a stream that have arrived, for a program that keeps the bytes itself.
--     RangesState      what is stored; ranges_code as a code
--     fresh_ranges first capacity most      nothing has arrived
--     ranges_of h c rs      what a head and runs store, whose capacity is c
--     HasSoundRanges h c rs      they are those of such ranges
--     next_of_ranges s, limit_of_ranges s      the first missing position, and the end of the free window
--     has_arrived s p      the position p is below the first missing one, or is held
--     ranges_can_end s e      whether the stream can end at e
--     IsNewPart s start end part      the first part of a range that is new, if there is one
--     with_new s part      what is stored with that part
--     KeepsNew s start end fin result u      what a call of `keep` returns and leaves
--     ranges_after_read s n      what a read leaves
--     RangesCall, Goes s c u, GoAll s cs u      a call and what it returned; what one leaves, and several
--     is_in_part c p      the call returned a part that has the position p
--     noted notes cs      notes of bytes, and those of each part that calls returned at its positions
-- EachOnce, NotesAreOfStream, AllArrives are laws.
use Rattle.std.specs.Prelude.{◌≡◌, ◌↔◌, ℕ, ◌+◌, ◌-◌, ◌<◌, ◌≤◌, min, max, Bool, ◌||◌, ◌&&◌, nat_lt, nat_le, IsTrue}
use Rattle.std.specs.Prelude.{[], ◌∷◌, All, IsFalse, count_by, slice_get, false}
use Rattle.std.specs.Prelude.{List, length, refl, Option, Some, None, Result, Ok, Err, IfOk, OnErr, if◌then◌else◌}
use Rattle.std.specs.Int.{from_bool}
use Rattle.net_assembler.specs.Positions.{lies_in, Positions, contains, nothing, positions, bound_of, first_missing}
use Rattle.net_assembler.specs.Positions.{with_range, shift_up, shift_down}
use Rattle.net_receiver.specs.Schedule.{piece, piece_byte_at}
use Rattle.std.specs.Coded.{Coded, code_by, coded×, coded_ℕ}
use Rattle.std.specs.FinSet as set
use Rattle.std.specs.declared.ops.Range.{Range}
use Rattle.net_assembler.specs.Assembler.{MakesTooManyRuns}
use Rattle.net_assembler.specs.RunLists.{set_of}
use Rattle.net_receiver.specs.ReceiverState.{pair_of}
use Rattle.net_receiver.specs.Head.{HasSoundHeld, held_at, top_at}
use Rattle.net_receiver.specs.Finite.{no_end, can_end_by}
use Rattle.net_receiver.specs.FiniteHead.{end_of}
use Rattle.net_receiver.specs.Scoreboards.{IsHole}
use Rattle.net_receiver.specs.declared.finite_receiver_head.FiniteReceiverHead.{FiniteReceiverHead}
use Rattle.net_receiver.specs.declared.kept.FiniteError.{FiniteError}
use Rattle.net_receiver.specs.declared.kept.FiniteError.TheVariants as errors

-- the positions up to `first + read` were read, as many as `queued` come next, and `held` are beyond
pub record RangesState : Type 0 where
  pub first : ℕ
  pub read : ℕ
  pub queued : ℕ
  pub capacity : ℕ
  pub most_runs : ℕ
  pub held : Positions
  pub end : ℕ

abbrev pub fresh_ranges : ℕ → ℕ → ℕ → RangesState
fresh_ranges first capacity most = record {
  first = first;
  read = 0;
  queued = 0;
  capacity = capacity;
  most_runs = most;
  held = nothing;
  end = no_end;
}

-- the first missing position
abbrev pub next_of_ranges : RangesState → ℕ
next_of_ranges s = s.first + s.read + s.queued

-- the end of the free window
abbrev pub limit_of_ranges : RangesState → ℕ
limit_of_ranges s = s.first + s.read + s.capacity

-- p is below the first missing position, or is held
abbrev pub has_arrived : RangesState → ℕ → Bool
has_arrived s p = nat_lt p (next_of_ranges s) || contains s.held p

-- e is the end that is known, or none is, and it isn't below the first missing position or a held run's end
abbrev pub ranges_can_end : RangesState → ℕ → Bool
ranges_can_end s e = can_end_by s.end (max (next_of_ranges s) (bound_of (positions s.held))) e

-- ---- a segment
-- the first part of its positions that is new: in the free window, and below the end
abbrev pub IsNewPart : RangesState → ℕ → ℕ → Option (ℕ × ℕ) → Type 0
IsNewPart s start end part =
    IsHole s.held (max start (next_of_ranges s)) (min end (min (limit_of_ranges s) (min s.end (no_end - 1)))) part

-- the positions of a set from n on
abbrev pub positions_from : Positions → ℕ → Positions
positions_from s n = shift_up (shift_down s n) n

-- with a part: what is contiguous then is queued
abbrev pub with_new : RangesState → ℕ × ℕ → RangesState
with_new s part =
    let all = with_range s.held part.0 (part.1 - part.0) in
    let next = first_missing all (next_of_ranges s) in
    record s { queued = next - s.first - s.read; held = positions_from all next }

-- what is stored after a segment that isn't refused
abbrev pub with_part : RangesState → Option (ℕ × ℕ) → RangesState
with_part s None = s
with_part s (Some part) = with_new s part

-- the end is taken if it is not above the limit
abbrev pub with_end : RangesState → ℕ → Bool → RangesState
with_end s end fin =
    record s { end = if fin && nat_le end (limit_of_ranges s) then end else s.end }

-- a part isn't in order, and with it there would be too many runs
abbrev pub HasNoRoomFor : RangesState → Option (ℕ × ℕ) → Type 0
HasNoRoomFor s None = ⊥
HasNoRoomFor s (Some part) =
    (next_of_ranges s < part.0) × MakesTooManyRuns s.most_runs s.held part.0 (part.1 - part.0)

-- what a call returns and leaves
pub record KeepsNew (s : RangesState) (start end : ℕ) (fin : Bool)
    (result : Result (Option (Range ℕ)) FiniteError) (u : RangesState) : Type 0 where
  pub other_end : (result ≡ Err errors.OtherEnd) ↔ (IsTrue fin × IsFalse (ranges_can_end s end))
  pub too_many : result ≡ Err errors.TooManyHoles →
      (part : Option (ℕ × ℕ)) × IsNewPart s start end part × HasNoRoomFor s part
  pub in_order : start ≤ next_of_ranges s → result ≡ Err errors.TooManyHoles → ⊥
  pub unchanged : OnErr result (u ≡ s)
  pub part : IfOk result (λ part. IsNewPart s start end (pair_of part) × (HasNoRoomFor s (pair_of part) → ⊥))
  pub state : IfOk result (λ part. u ≡ with_end (with_part s (pair_of part)) end fin)

-- what a read of n positions leaves
abbrev pub ranges_after_read : RangesState → ℕ → RangesState
ranges_after_read s n = record s { read = s.read + n; queued = s.queued - n }

-- ---- lists of calls
-- `keep` of a segment of these bytes, with `fin`, and what it returned; and the others
pub data RangesCall : Type 0 where
  Keeps : ℕ → List ℕ → Bool → Result (Option (Range ℕ)) FiniteError → RangesCall
  Reads : ℕ → RangesCall
  Grows : ℕ → RangesCall
  GrowsRuns : ℕ → RangesCall

-- what a call leaves
abbrev pub Goes : RangesState → RangesCall → RangesState → Type 0
Goes s (Keeps start bytes fin result) u = KeepsNew s start (start + length bytes) fin result u
Goes s (Reads n) u = (n ≤ s.queued) × (u ≡ ranges_after_read s n)
Goes s (Grows capacity) u = (s.capacity ≤ capacity) × (u ≡ record s { capacity = capacity })
Goes s (GrowsRuns most) u = (s.most_runs ≤ most) × (u ≡ record s { most_runs = most })

abbrev pub GoAll : RangesState → List RangesCall → RangesState → Type 0
GoAll s [] u = s ≡ u
GoAll s (c ∷ cs) u = (t : RangesState) × Goes s c t × GoAll t cs u

-- a call returned a part that has p
abbrev pub is_in_part : RangesCall → ℕ → Bool
is_in_part (Keeps start bytes fin (Ok (Some part))) p = lies_in p (part.start, part.end)
is_in_part (Keeps start bytes fin (Ok None)) p = false
is_in_part (Keeps start bytes fin (Err e)) p = false
is_in_part (Reads n) p = false
is_in_part (Grows capacity) p = false
is_in_part (GrowsRuns most) p = false

-- each position that arrives is in the part of one call, and no other position is in any
abbrev pub EachOnce : Type 0
EachOnce = (s u : RangesState) (cs : List RangesCall) (p : ℕ) → GoAll s cs u →
    count_by (λ c. is_in_part c p) cs + from_bool (has_arrived s p) ≡ from_bool (has_arrived u p)

-- the byte that a call's segment has at p
abbrev pub byte_in : RangesCall → ℕ → Option ℕ
byte_in (Keeps start bytes fin result) p = piece_byte_at (piece start bytes) p
byte_in (Reads n) p = None
byte_in (Grows capacity) p = None
byte_in (GrowsRuns most) p = None

-- the bytes of each part are noted at its positions
abbrev pub noted : (ℕ → Option ℕ) → List RangesCall → ℕ → Option ℕ
noted notes [] p = notes p
noted notes (c ∷ cs) p = noted (λ q. if is_in_part c q then byte_in c q else notes q) cs p

-- the call's segment is of the stream x, whose first byte has position f
abbrev pub IsOfStream : ℕ → List ℕ → RangesCall → Type 0
IsOfStream f x c = (p b : ℕ) → f ≤ p → byte_in c p ≡ Some b → slice_get x (p - f) ≡ Some b

-- if each segment is of the stream, the notes are the stream's at each position that has arrived
abbrev pub NotesAreOfStream : Type 0
NotesAreOfStream = (f : ℕ) (x : List ℕ) (s u : RangesState) (cs : List RangesCall) (notes : ℕ → Option ℕ) →
    GoAll s cs u → All (IsOfStream f x) cs →
    ((p : ℕ) → f ≤ p → IsTrue (has_arrived s p) → notes p ≡ slice_get x (p - f)) →
    (p : ℕ) → f ≤ p → IsTrue (has_arrived u p) → noted notes cs p ≡ slice_get x (p - f)

-- once no position of a segment is new, each of them in the free window and below the end has arrived
abbrev pub AllArrives : Type 0
AllArrives = (s u : RangesState) (start end : ℕ) (fin : Bool) (p : ℕ) → KeepsNew s start end fin (Ok None) u →
    start ≤ p → p < min end (min (limit_of_ranges s) (min s.end (no_end - 1))) → IsTrue (has_arrived u p)

-- ---- a head and runs
-- what they store, where the capacity is c
abbrev pub ranges_of : FiniteReceiverHead → ℕ → List (ℕ × ℕ) → RangesState
ranges_of h c rs = record {
  first = h.receiver.first;
  read = h.receiver.count_read;
  queued = h.receiver.place.length;
  capacity = c;
  most_runs = length rs;
  held = held_at h.receiver rs;
  end = end_of h;
}

-- they are those of ranges: what is held is in the free window and below the end, and the end has a number after it
pub record HasSoundRanges (h : FiniteReceiverHead) (c : ℕ) (rs : List (ℕ × ℕ)) : Type 0 where
  pub held : HasSoundHeld h.receiver rs
  pub queued : h.receiver.place.length ≤ c
  pub within : (p : ℕ) → IsTrue (contains (set_of h.receiver.held rs) p) → p < c - h.receiver.place.length
  pub below : top_at h.receiver rs ≤ end_of h
  pub number : top_at h.receiver rs < no_end

-- what is stored, as a code
abbrev pub ranges_code : Coded RangesState
ranges_code =
    code_by (ℕ × (ℕ × (ℕ × (ℕ × (ℕ × (Positions × ℕ))))))
    (coded× coded_ℕ (coded× coded_ℕ (coded× coded_ℕ (coded× coded_ℕ (coded× coded_ℕ
    (coded× (set.code coded_ℕ) coded_ℕ))))))
    (λ s. (s.first, (s.read, (s.queued, (s.capacity, (s.most_runs, (s.held, s.end)))))))
    (λ p. record {
      first = p.0;
      read = p.1.0;
      queued = p.1.1.0;
      capacity = p.1.1.1.0;
      most_runs = p.1.1.1.1.0;
      held = p.1.1.1.1.1.0;
      end = p.1.1.1.1.1.1;
    })
    (λ _. refl)
