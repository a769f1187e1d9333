-- The headline: what a receiver replies to a list of commands. All of it is here, over the kit's lists and numbers. A
-- position is a number; `range_with_len p n` is the positions from p to p + n - 1. `prefix_len t ps` is how many of
-- the list ps pass the test t before the first that doesn't. Each definition is in words above it.
use Rattle.std.specs.Prelude.{ℕ, ◌+◌, ◌-◌, min, max, Bool, if◌then◌else◌, not, ◌&&◌, List, [], ◌∷◌, ◌++◌, map, filter}
use Rattle.std.specs.Prelude.{length, take, drop, nat_eq, nat_le, nat_lt, slice_get, Option, None, is_some, unwrap_or}
use Rattle.std.specs.Prelude.{Result, Ok, Err}
use Rattle.std.specs.Option.{option_or}
use Rattle.std.specs.List.{range_with_len, prefix_len}
use Rattle.net_assembler.specs.declared.assembler.error.TooManyHolesError.{TooManyHolesError}
use Rattle.net_receiver.specs.declared.kept.Kept.{Kept}

-- ---- commands and replies
-- a segment, by its position and its bytes; a read of at most so many bytes; a look
pub data CommandValue : Type 0 where
  Segment : ℕ → List ℕ → CommandValue
  Read : ℕ → CommandValue
  Show : CommandValue

-- to a segment: how many bytes were kept, by how many the first missing position moved, and the first three held runs,
-- or a refusal; to a read: the bytes; to a look: the first missing position, how many bytes are queued, how many have
-- room after them, and the held runs
pub data ReplyValue : Type 0 where
  SegmentReply : Result Kept TooManyHolesError → ReplyValue
  ReadReply : List ℕ → ReplyValue
  ShowReply : ℕ → ℕ → ℕ → List (ℕ × ℕ) → ReplyValue

-- ---- what was kept
-- a piece: bytes, and the position of the first of them
pub record Piece : Type 0 where
  pub start : ℕ
  pub bytes : List ℕ

-- its byte at p, if it contains p
abbrev pub piece_byte_at : Piece → ℕ → Option ℕ
piece_byte_at e p = if nat_le e.start p then slice_get e.bytes (p - e.start) else None

-- what it has at the positions from low on and below high
abbrev pub piece_within : ℕ → ℕ → Piece → Piece
piece_within low high e = record {
  start = max e.start low;
  bytes = drop (low - e.start) (take (high - e.start) e.bytes);
}

-- of a list of pieces, the byte at p of the last that contains p, if one does
unfoldable pub byte_at : List Piece → ℕ → Option ℕ
byte_at [] p = None
byte_at (e ∷ k) p = option_or (byte_at k p) (piece_byte_at e p)

-- the same as a number; 0 if there is no byte: it is used only for covered positions
abbrev pub byte : List Piece → ℕ → ℕ
byte k p = unwrap_or (byte_at k p) 0

-- whether one of them contains p
abbrev pub is_covered : List Piece → ℕ → Bool
is_covered k p = is_some (byte_at k p)

-- ---- one state
-- the stream's first position, how many bytes there is room for, and the most runs that may be held
pub record Setting : Type 0 where
  pub first : ℕ
  pub capacity : ℕ
  pub most_runs : ℕ

-- the pieces that were kept, the newest last, and how many bytes were read; none at first
pub record KeptState : Type 0 where
  pub kept : List Piece
  pub read : ℕ

abbrev pub fresh_kept : KeptState
fresh_kept = record { kept = []; read = 0 }

module _ (w : Setting) (s : KeptState) where
  -- the first position that wasn't read; and those for which there is room, from it on
  abbrev pub unread : ℕ
  unread = w.first + s.read

  abbrev pub window : List ℕ
  window = range_with_len unread w.capacity

  -- how many of these are covered before the first that isn't; their bytes are the queue, after which the first
  -- position is missing
  abbrev pub queued : ℕ
  queued = prefix_len (is_covered s.kept) window

  abbrev pub queue : List ℕ
  queue = map (byte s.kept) (range_with_len unread queued)

  abbrev pub missing : ℕ
  missing = unread + queued

  -- a position is held if it is covered and above the first missing one
  abbrev pub is_held : ℕ → Bool
  is_held p = nat_lt missing p && is_covered s.kept p

  -- the maximal runs of held positions as (start, end), rising, the end not included
  abbrev pub held_runs : List (ℕ × ℕ)
  held_runs =
      map (λ p. (p, p + prefix_len is_held (range_with_len p w.capacity)))
      (filter (λ p. is_held p && not (is_held (p - 1))) window)

  -- the state with one more piece
  abbrev pub with_kept : Piece → KeptState
  with_kept e = record { kept = s.kept ++ e ∷ []; read = s.read }

-- ---- one command
-- the first three of a list of runs, and `None` for each that it lacks
abbrev pub first_three : List (ℕ × ℕ) → List (Option (ℕ × ℕ))
first_three rs = slice_get rs 0 ∷ slice_get rs 1 ∷ slice_get rs 2 ∷ []

module _ (w : Setting) where
  -- the state t, and the reply to a segment of which n bytes were kept in state s
  abbrev pub keeps : KeptState → KeptState → ℕ → KeptState × ReplyValue
  keeps s t n = (
    t,
    SegmentReply (Ok (record {
      kept = n;
      queued = missing w t - missing w s;
      sack = first_three (held_runs w t);
    })),
  )

  -- what a piece does that is a segment's part in the free window. It changes nothing if it is empty. It is refused,
  -- and changes nothing, exactly if it misses the first missing position and would make more than the most runs.
  -- Otherwise it is kept
  abbrev pub after_part : KeptState → Piece → KeptState × ReplyValue
  after_part s e =
      if nat_eq (length e.bytes) 0 then keeps s s 0
      else if not (is_some (piece_byte_at e (missing w s)))
      && nat_lt w.most_runs (length (held_runs w (with_kept w s e)))
      then (s, SegmentReply (Err (record {})))
      else keeps s (with_kept w s e) (length e.bytes)

  -- the state after a command, and its reply. The free window goes from the first missing position on as far as there
  -- is room. A read counts the bytes that it gives
  abbrev pub step : KeptState → CommandValue → KeptState × ReplyValue
  step s (Segment pos xs) =
      after_part s (piece_within (missing w s) (unread w s + w.capacity) (record { start = pos; bytes = xs }))
  step s (Read n) = (record { kept = s.kept; read = s.read + min n (queued w s) }, ReadReply (take n (queue w s)))
  step s Show = (s, ShowReply (missing w s) (queued w s) (w.capacity - queued w s) (held_runs w s))

  -- the replies to commands, one after another, and the state after them
  unfoldable pub replies_from : KeptState → List CommandValue → List ReplyValue
  replies_from s [] = []
  replies_from s (c ∷ cs) = (step s c).1 ∷ replies_from (step s c).0 cs

  unfoldable pub state_from : KeptState → List CommandValue → KeptState
  state_from s [] = s
  state_from s (c ∷ cs) = state_from (step s c).0 cs

  -- the same from the beginning
  abbrev pub replies : List CommandValue → List ReplyValue
  replies cs = replies_from fresh_kept cs

  abbrev pub state : List CommandValue → KeptState
  state cs = state_from fresh_kept cs
