-- That receivers do what `Headline.antt` says.
--     Calls N v calls u      calls on a receiver, one after another, each as its contract says
--     CallsReply      their replies are those of the rules, and so is what is queued then
--     CallsGoOn      one more call
--     KeepReplies      what `keep` returns is the reply to its segment, without the runs
--     LookShows      what a look shows
--     RepliesAre w cs rs complete      rs are the replies of the rules to the first of the commands cs
-- What its words mean.
--     Contains e p, NoneContains k p      the piece e, or no piece of k, contains the position p
--     IsLast k p e      e is the last piece of k that contains p
--     IsLeastMissing f k n      n is the least position from f on that no piece of k contains
--     ByteOfLast, NextIsLeast, HeldAreAbove      "last", "none kept" and "held"
-- Two schedules, computed in full by the rules of `Headline.antt`.
use Rattle.std.specs.Prelude.{◌≡◌, ℕ, ◌-◌, List, [], ◌∷◌, ◌++◌, map, length, take, Result, Ok, Err}
use Rattle.std.specs.Prelude.{Option, Some, None, ◌↔◌, ◌⊎◌, ◌≤◌, ◌<◌, slice_index, IsTrue, All}
use Rattle.net_assembler.specs.declared.assembler.error.TooManyHolesError.{TooManyHolesError}
use Rattle.net_receiver.specs.declared.kept.Kept.{Kept}
use Rattle.net_receiver.specs.declared.kept.KeptBytes.{KeptBytes}
use Rattle.net_receiver.specs.Headline.{Setting, CommandValue, Segment, Show, ReplyValue, SegmentReply, ShowReply}
use Rattle.net_receiver.specs.Headline.{queue, replies, state, Read, ReadReply, Piece, byte_at, missing, held_runs}
use Rattle.net_receiver.specs.Schedule.{piece, end}
use Rattle.net_receiver.specs.ReceiverState.{numbers, verdict, ReceiverState, fresh_receiver, receiver_after_command}
use Rattle.net_receiver.specs.ReceiverState.{receiver_reply, next_position, domain}
use Rattle.net_assembler.specs.Positions.{Positions, contains, maximal_runs, AreMaximalRuns}

-- calls on a receiver, each by its command and its reply: that it replies this, and what it leaves, is what clauses
-- `reply` and `state` of its contract say, in these very words
abbrev pub Calls : ℕ → ReceiverState → List (CommandValue × ReplyValue) → ReceiverState → Type 0
Calls most_runs v [] u = u ≡ v
Calls most_runs v (call ∷ calls) u =
    (call.1 ≡ receiver_reply most_runs v call.0)
    × (between : ReceiverState) × (between ≡ receiver_after_command most_runs v call.0)
    × Calls most_runs between calls u

-- calls on a new receiver reply what the rules say, and its queue is then that of the rules
abbrev pub CallsReply : Type 0
CallsReply = (w : Setting) (v u : ReceiverState) (calls : List (CommandValue × ReplyValue)) →
    v ≡ fresh_receiver w.first w.capacity → Calls w.most_runs v calls u →
    (map (λ c. c.1) calls ≡ replies w (map (λ c. c.0) calls))
    × (u.queue ≡ queue w (state w (map (λ c. c.0) calls)))

-- one more call, for an invariant of a caller's loop
abbrev pub CallsGoOn : Type 0
CallsGoOn = (most_runs : ℕ) (v u t : ReceiverState) (calls : List (CommandValue × ReplyValue)) (c : CommandValue)
    (r : ReplyValue) → Calls most_runs v calls u → r ≡ receiver_reply most_runs u c →
    t ≡ receiver_after_command most_runs u c → Calls most_runs v (calls ++ (c, r) ∷ []) t

-- the reply to a segment without its runs
abbrev pub without_runs : Result Kept TooManyHolesError → Result KeptBytes TooManyHolesError
without_runs (Ok it) = Ok (record { kept = it.kept; queued = it.queued })
without_runs (Err e) = Err e

-- `keep` returns that of the reply to its segment
abbrev pub KeepReplies : Type 0
KeepReplies = (most_runs pos : ℕ) (xs : List ℕ) (v : ReceiverState) (r : Result Kept TooManyHolesError) →
    SegmentReply r ≡ receiver_reply most_runs v (Segment pos xs) →
    numbers v (verdict most_runs v (piece pos xs)) ≡ without_runs r

-- a look shows what `next`, `queued`, `window` and `held` return
abbrev pub LookShows : Type 0
LookShows = (most_runs : ℕ) (v : ReceiverState) → receiver_reply most_runs v Show
    ≡ ShowReply (next_position v) (length v.queue) (v.capacity - length v.queue) (maximal_runs (domain v.held))

-- these are the replies of the rules to the first of some commands, to all if it is complete
abbrev pub RepliesAre : Setting → List CommandValue → List ReplyValue → Type 0 → Type 0
RepliesAre w cs rs complete = (rs ≡ take (length rs) (replies w cs)) × (complete → rs ≡ replies w cs)

-- ---- What its words mean.
-- p is one of the positions of a piece
abbrev pub Contains : Piece → ℕ → Type 0
Contains e p = (e.start ≤ p) × (p < end e)

-- no piece of k contains p
abbrev pub NoneContains : List Piece → ℕ → Type 0
NoneContains k p = All (λ e. Contains e p → ⊥) k

-- e is the last piece of k that contains p
pub record IsLast (k : List Piece) (p : ℕ) (e : Piece) : Type 0 where
  pub before : List Piece
  pub after : List Piece
  pub whole : k ≡ before ++ e ∷ after
  pub there : Contains e p
  pub last : NoneContains after p

-- some piece contains p
abbrev pub SomeContains : List Piece → ℕ → Type 0
SomeContains k p = (e : Piece) × IsLast k p e

-- the byte at a position is that of the last piece that contains it, and there is none if no piece does
abbrev pub ByteOfLast : Type 0
ByteOfLast = (k : List Piece) (p : ℕ) →
    (NoneContains k p × (byte_at k p ≡ None))
    ⊎ ((e : Piece) × IsLast k p e × (byte_at k p ≡ Some (slice_index e.bytes (p - e.start))))

-- n is the least position from f on that no piece contains
pub record IsLeastMissing (f : ℕ) (k : List Piece) (n : ℕ) : Type 0 where
  pub from : f ≤ n
  pub here : NoneContains k n
  pub before : (p : ℕ) → f ≤ p → p < n → SomeContains k p

-- the first missing position is that from the first position on, whatever the commands were
abbrev pub NextIsLeast : Type 0
NextIsLeast = (w : Setting) (cs : List CommandValue) →
    IsLeastMissing w.first (state w cs).kept (missing w (state w cs))

-- and the held runs are the maximal runs of the positions above it that some piece contains
abbrev pub HeldAreAbove : Type 0
HeldAreAbove = (w : Setting) (cs : List CommandValue) → let s = state w cs in
    (held : Positions) × AreMaximalRuns held (held_runs w s)
    × ((p : ℕ) → IsTrue (contains held p) ↔ ((missing w s < p) × SomeContains s.kept p))

-- ---- Two schedules, computed in full by the rules of `Headline.antt`.
-- the reply to a segment, by how many of its bytes are kept, and how many join the queue
abbrev pub segment_reply : ℕ → ℕ → List (Option (ℕ × ℕ)) → ReplyValue
segment_reply kept queued sack = SegmentReply (Ok (record { kept = kept; queued = queued; sack = sack }))

-- two segments that disagree arrive out of order, then the bytes before them: `AA` at 2, `BB` at 3,
-- `CC` at 0, and then `CCABB` is read; for a capacity of 16 bytes and at most four runs
abbrev pub WorkedSchedule : Type 0
WorkedSchedule =
    replies (record { first = 0; capacity = 16; most_runs = 4 })
    (Segment 2 (65 ∷ 65 ∷ []) ∷ Segment 3 (66 ∷ 66 ∷ []) ∷ Show
    ∷ Segment 0 (67 ∷ 67 ∷ []) ∷ Show ∷ Read 5 ∷ Show ∷ [])
    ≡ segment_reply 2 0 (Some (2, 4) ∷ None ∷ None ∷ [])
    ∷ segment_reply 2 0 (Some (2, 5) ∷ None ∷ None ∷ [])
    ∷ ShowReply 0 0 16 ((2, 5) ∷ [])
    ∷ segment_reply 2 5 (None ∷ None ∷ None ∷ [])
    ∷ ShowReply 5 5 11 []
    ∷ ReadReply (67 ∷ 67 ∷ 65 ∷ 66 ∷ 66 ∷ [])
    ∷ ShowReply 5 0 16 [] ∷ []

-- from position 100 on, with room for 8 bytes and one run: a second run is refused, what reaches to the first is not,
-- and of a segment that begins too low and ends too high the free window's part is kept
abbrev pub WorkedRefusal : Type 0
WorkedRefusal =
    replies (record { first = 100; capacity = 8; most_runs = 1 })
    (Segment 103 (68 ∷ []) ∷ Segment 106 (71 ∷ []) ∷ Segment 104 (69 ∷ 70 ∷ []) ∷ Segment 100 (65 ∷ []) ∷ Read 9
    ∷ Segment 99 (63 ∷ 63 ∷ 66 ∷ 67 ∷ 68 ∷ 69 ∷ 70 ∷ 71 ∷ 72 ∷ 73 ∷ 74 ∷ []) ∷ Show ∷ Segment 109 (63 ∷ []) ∷ [])
    ≡ segment_reply 1 0 (Some (103, 104) ∷ None ∷ None ∷ [])
    ∷ SegmentReply (Err (record {}))
    ∷ segment_reply 2 0 (Some (103, 106) ∷ None ∷ None ∷ [])
    ∷ segment_reply 1 1 (Some (103, 106) ∷ None ∷ None ∷ [])
    ∷ ReadReply (65 ∷ [])
    ∷ segment_reply 8 8 (None ∷ None ∷ None ∷ [])
    ∷ ShowReply 109 8 0 []
    ∷ segment_reply 0 0 (None ∷ None ∷ None ∷ []) ∷ []
