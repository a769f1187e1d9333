-- Where the bytes of a segment are.
--     parts_between next limit p n      how many of n bytes at p are below `next`, between them, and above
--     segment_parts v p n      how many of n bytes at p are old, in the free window, and beyond
--     finite_parts s p n      and how many are past the end of a stream
--     KeptParts, FiniteKeptParts      how many of them `keep` keeps
use Rattle.std.specs.Prelude.{◌≡◌, ℕ, ◌+◌, ◌-◌, ◌^◌, min, max, Bool, List, length, IfOk}
use Rattle.net_receiver.specs.declared.kept.SegmentParts.{SegmentParts}
use Rattle.net_receiver.specs.Schedule.{piece}
use Rattle.net_receiver.specs.ReceiverState.{ReceiverState, next_position, limit_of, existing, numbers, verdict}
use Rattle.net_receiver.specs.Finite.{FiniteState, bytes_end, before_segment, finite_result}

-- those below `next`; those from there on and below `limit`, which have a position below 2 ^ 64 - 1; and the others
abbrev pub parts_between : ℕ → ℕ → ℕ → ℕ → SegmentParts
parts_between next limit p n =
    let old = min n (next - p) in
    let in_window = min (n - old) (min limit (2 ^ 64 - 1) - max p next) in
    record { old = old; in_window = in_window; beyond = n - old - in_window; past_end = 0 }

-- by the first missing position and the end of the free window
abbrev pub segment_parts : ReceiverState → ℕ → ℕ → SegmentParts
segment_parts v p n = parts_between (next_position v) (limit_of v) p n

-- the same of those below the end, and those past it
abbrev pub finite_parts : FiniteState → ℕ → ℕ → SegmentParts
finite_parts s p n =
    let below = min n (bytes_end s - p) in record (segment_parts s.receiver p below) { past_end = n - below }

-- ---- laws
-- a segment that isn't refused: as many bytes are kept as are in the free window
abbrev pub KeptParts : Type 0
KeptParts = (most_runs : ℕ) (v : ReceiverState) (pos : ℕ) (xs : List ℕ) →
    IfOk (numbers v (verdict most_runs v (piece pos (existing pos xs))))
    (λ it. it.kept ≡ (segment_parts v pos (length xs)).in_window)

-- of a stream that ends: of what the segment meets
abbrev pub FiniteKeptParts : Type 0
FiniteKeptParts = (most_runs : ℕ) (s : FiniteState) (pos : ℕ) (xs : List ℕ) (last : Bool) →
    IfOk (finite_result most_runs s pos xs last)
    (λ it. it.kept ≡ (finite_parts (before_segment s pos (pos + length xs) last) pos (length xs)).in_window)
