-- What a receiver stores, the rules by which a command changes it, and the relation of it to a schedule's state.
--     ReceiverState      the first position, the capacity, the count read, the queue and the held bytes
--     domain held      the positions that held bytes have
--     with_bytes_at held p xs      the held bytes, with xs from position p on
--     fresh_receiver first capacity      what a fresh receiver stores
--     next_position v, limit_of v      the first missing position, and the end of the free window
--     receiver_after_read v n      what a read leaves
--     Verdict, verdict N v e      what happens to a segment: nothing is kept, it is refused, or a piece is kept
--     state_after v x, segment_result v x      what it leaves, and its result
--     receiver_after_command N v c, receiver_reply N v c      one command by the rules
--     setting N v      the setting of the schedules that v represents
--     IsSound N v      what is true of every receiver
--     StaysInSetting N v u      first position and capacity stay, and at most N runs are held
--     Refines v s      what is stored represents a schedule's state
--     IsSameState v u      what `same_state` compares
-- The commands, the replies and the schedules' states are defined in `Headline.antt`.
-- How a ring and a set of offsets represent what a receiver stores.
--     held_bytes s n spare      the bytes of the spare part at the offsets of s, counted from n
--     parts f r queue spare s      what is stored
--     Fits64Bits v      its positions stay within 64 bits
--     EndBelow limit rs      runs that end below a limit
--     pair_of range      the start and the end of a range, if there is one
--     receiver_code      what is stored, as a code
-- Where the queued bytes are in the storage, and how many of them are contiguous.
--     index_of v i      the index of the stream's byte number i
--     contiguous_count v      how many bytes of the queue are contiguous, from the first one on
--     contiguous_count_from v o n      how many are, of at most n bytes of the queue from byte o on
--     first_part v, second_part v      the queue's two parts, each of them contiguous
--     IsReadAt g i      the ring g is read where the stream's byte number i is
-- What happens to one segment, whose bytes in the free window are xs.
--     KeepsOrRefuses v xs u r      xs is kept, or nothing changes
--     JoinsQueue v xs u r      xs is kept and joins the queue
--     existing p xs      the bytes of a segment at p that are below position 2 ^ 64 - 1: no stream has others
--     count_between next limit held p n      how many positions of n bytes at p are from next on, below limit, not held
--     new_count v p n      how many bytes of a segment of n bytes at p would be new
use Rattle.std.specs.Prelude.{◌≡◌, ℕ, ◌+◌, ◌-◌, ◌≤◌, ◌<◌, ◌&&◌, not, min, true, List, [], ◌∷◌, ◌++◌, map, take, length}
use Rattle.std.specs.Prelude.{drop, nat_eq, nat_le, unwrap_or, is_some, if◌then◌else◌, None, Result, Ok, Err, ◌^◌, All}
use Rattle.std.specs.Prelude.{Option, Some, slice_index, refl, ◌%◌, IsOk, IfOk, OnErr, nat_lt, count_by}
use Rattle.std.specs.List.{range_with_len}
use Rattle.std.specs.Ordering.{nat_cmp}
use Rattle.net_assembler.specs.Assembler.{makes_too_many_runs}
use Rattle.net_assembler.specs.Positions.{Positions, set_of_list, first_missing, runs, maximal_runs, positions}
use Rattle.net_assembler.specs.Positions.{contains}
use Rattle.net_assembler.specs.declared.assembler.error.TooManyHolesError.{TooManyHolesError}
use Rattle.net_receiver.specs.declared.kept.Kept.{Kept}
use Rattle.net_receiver.specs.declared.kept.KeptBytes.{KeptBytes}
use Rattle.net_receiver.specs.Headline.{queue, is_held}
use Rattle.net_receiver.specs.Schedule.{Piece, piece, piece_byte_at, piece_within, byte_at, Setting, KeptState, HasRoom}
use Rattle.std.specs.Coded.{Coded, code_by, coded×, coded_list, coded_ℕ}
use Rattle.net_ring.specs.Ring.{RingState}
pub use Rattle.net_receiver.specs.Headline.{CommandValue, Segment, Read, Show, ReplyValue, SegmentReply, ReadReply}
pub use Rattle.net_receiver.specs.Headline.{ShowReply, first_three}
use Rattle.std.specs.FinMap as fin
use Rattle.std.specs.declared.ops.Range.{Range}

-- held bytes by their positions
abbrev pub HeldBytes : Type 0
HeldBytes = fin.FinMap nat_cmp ℕ

-- what a receiver stores, as contracts see it
pub record ReceiverState : Type 0 where
  pub first : ℕ
  pub capacity : ℕ
  pub read : ℕ
  pub queue : List ℕ
  pub held : HeldBytes

-- the positions that are held
abbrev pub domain : HeldBytes → Positions
domain held = set_of_list (fin.keys held)

-- what a fresh receiver stores
abbrev pub fresh_receiver : ℕ → ℕ → ReceiverState
fresh_receiver first capacity = record {
  first = first;
  capacity = capacity;
  read = 0;
  queue = [];
  held = fin.empty;
}

-- the first missing position
abbrev pub next_position : ReceiverState → ℕ
next_position v = v.first + v.read + length v.queue

-- the end of the free window
abbrev pub limit_of : ReceiverState → ℕ
limit_of v = v.first + v.read + v.capacity

-- the held bytes, with these bytes from position p on
abbrev pub with_bytes_at : HeldBytes → ℕ → List ℕ → HeldBytes
with_bytes_at held p [] = held
with_bytes_at held p (x ∷ xs) = fin.insert (with_bytes_at held (p + 1) xs) p x

-- the first position from n on that is not held
abbrev pub first_lacking : HeldBytes → ℕ → ℕ
first_lacking held n = first_missing (domain held) n

-- the held bytes at p to p + n - 1; 0 if there is no byte there: it is used only for held positions
abbrev pub held_bytes_at : HeldBytes → ℕ → ℕ → List ℕ
held_bytes_at held p n = map (λ q. unwrap_or (fin.get held q) 0) (range_with_len p n)

-- the bytes from n up to `end`, the first missing position, join the queue. `bytes` has the bytes of the kept piece,
-- and at the other positions the held ones
abbrev pub receiver_up_to : ReceiverState → ℕ → HeldBytes → ℕ → ReceiverState
receiver_up_to v n bytes end = record {
  first = v.first;
  capacity = v.capacity;
  read = v.read;
  queue = v.queue ++ held_bytes_at bytes n (end - n);
  held = fin.retain_keys bytes (λ p. nat_le end p);
}

-- the held bytes, in which the bytes of a kept piece replace those at its positions
abbrev pub held_with_piece : ReceiverState → Piece → HeldBytes
held_with_piece v part = with_bytes_at v.held part.start part.bytes

-- what is stored after a kept piece
abbrev pub receiver_with_piece : ReceiverState → Piece → ReceiverState
receiver_with_piece v part =
    receiver_up_to v (next_position v) (held_with_piece v part)
    (first_lacking (held_with_piece v part) (next_position v))

-- what is stored after a read of n bytes
abbrev pub receiver_after_read : ReceiverState → ℕ → ReceiverState
receiver_after_read v n = record {
  first = v.first;
  capacity = v.capacity;
  read = v.read + min n (length v.queue);
  queue = drop n v.queue;
  held = v.held;
}

-- ---- the rules
-- what happens to a segment
pub data Verdict : Type 0 where
  KeepsNone : Verdict
  Refuses : Verdict
  Keeps : Piece → Verdict

-- the verdict on the part of a segment in the free window, n being the first missing position
abbrev pub verdict_of_piece : ℕ → ℕ → Positions → Piece → Verdict
verdict_of_piece n most_runs held part =
    if nat_eq (length part.bytes) 0 then KeepsNone
    else if not (is_some (piece_byte_at part n))
    && makes_too_many_runs most_runs held part.start (length part.bytes) then Refuses
    else Keeps part

-- the numbers, with the first three held runs after the segment
abbrev pub with_sack : Result KeptBytes TooManyHolesError → Positions → Result Kept TooManyHolesError
with_sack (Ok n) held =
    Ok (record { kept = n.kept; queued = n.queued; sack = first_three (maximal_runs held) })
with_sack (Err e) held = Err e

-- the state after a segment, by what happens to it
abbrev pub state_after : ReceiverState → Verdict → ReceiverState
state_after v KeepsNone = v
state_after v Refuses = v
state_after v (Keeps part) = receiver_with_piece v part

-- how many bytes are kept, and how many join the queue, or the refusal
abbrev pub numbers : ReceiverState → Verdict → Result KeptBytes TooManyHolesError
numbers v KeepsNone = Ok (record { kept = 0; queued = 0 })
numbers v Refuses = Err (record {})
numbers v (Keeps part) =
    Ok (record {
      kept = length part.bytes;
      queued = next_position (receiver_with_piece v part) - next_position v;
    })

-- the result of a segment
abbrev pub segment_result : ReceiverState → Verdict → Result Kept TooManyHolesError
segment_result v x = with_sack (numbers v x) (domain (state_after v x).held)

module _ (most_runs : ℕ) where
  -- what happens to a segment in a state: its part in the free window is at the positions from the first missing
  -- one on and below the limit
  abbrev pub verdict : ReceiverState → Piece → Verdict
  verdict v e =
      verdict_of_piece (next_position v) most_runs (domain v.held) (piece_within (next_position v) (limit_of v) e)

  -- what is stored after a command
  abbrev pub receiver_after_command : ReceiverState → CommandValue → ReceiverState
  receiver_after_command v (Segment pos xs) = state_after v (verdict v (piece pos xs))
  receiver_after_command v (Read count) = receiver_after_read v count
  receiver_after_command v Show = v

  -- the reply to a command
  abbrev pub receiver_reply : ReceiverState → CommandValue → ReplyValue
  receiver_reply v (Segment pos xs) = SegmentReply (segment_result v (verdict v (piece pos xs)))
  receiver_reply v (Read count) = ReadReply (take count v.queue)
  receiver_reply v Show =
      ShowReply (next_position v) (length v.queue) (v.capacity - length v.queue) (maximal_runs (domain v.held))

  -- what is stored after commands, and the replies to them
  abbrev pub receiver_after_commands : ReceiverState → List CommandValue → ReceiverState
  receiver_after_commands v [] = v
  receiver_after_commands v (c ∷ cs) = receiver_after_commands (receiver_after_command v c) cs

  abbrev pub receiver_replies : ReceiverState → List CommandValue → List ReplyValue
  receiver_replies v [] = []
  receiver_replies v (c ∷ cs) = receiver_reply v c ∷ receiver_replies (receiver_after_command v c) cs

  -- the setting of the schedules that a receiver represents
  abbrev pub setting : ReceiverState → Setting
  setting v = record { first = v.first; capacity = v.capacity; most_runs = most_runs }

-- a receiver's first position and its capacity stay, and no more runs are held than that number
pub record StaysInSetting (most_runs : ℕ) (v u : ReceiverState) : Type 0 where
  pub first : u.first ≡ v.first
  pub capacity : u.capacity ≡ v.capacity
  pub bound : runs (domain u.held) ≤ most_runs

-- what is stored represents a kept list and a count read: the queue and the held bytes are the state's
pub record Refines (v : ReceiverState) (s : KeptState) : Type 0 where
  pub read : v.read ≡ s.read
  pub room : HasRoom (setting 0 v) s
  pub queue : v.queue ≡ queue (setting 0 v) s
  pub held : (p : ℕ) → fin.get v.held p ≡ if is_held (setting 0 v) s p then byte_at s.kept p else None

-- what is true of every receiver: at most N held runs, all above `next` and within the free window
pub record IsSound (most_runs : ℕ) (v : ReceiverState) : Type 0 where
  pub few : runs (domain v.held) ≤ most_runs
  pub above : (p : ℕ) → fin.contains_key v.held p ≡ true → next_position v < p
  pub below : (p : ℕ) → fin.contains_key v.held p ≡ true → p < limit_of v
  pub fits : length v.queue ≤ v.capacity

-- what `same_state` compares: first position, count read, queue and held runs
-- (of what is stored; `AreAlike` in `Execution.antt` is of schedules' states, which have a `next`)
abbrev pub IsSameState : ReceiverState → ReceiverState → Type 0
IsSameState v u =
    (v.first ≡ u.first) × (v.read ≡ u.read) × (v.queue ≡ u.queue)
    × (maximal_runs (domain v.held) ≡ maximal_runs (domain u.held))

-- ---- What is true of every receiver is true of a fresh one, and stays true after each command.
-- a fresh receiver, for any number of runs
abbrev pub FreshIsSound : Type 0
FreshIsSound = (most_runs first capacity : ℕ) → IsSound most_runs (fresh_receiver first capacity)

-- each command
abbrev pub SoundStays : Type 0
SoundStays = (most_runs : ℕ) (v : ReceiverState) (c : CommandValue) →
    IsSound most_runs v → IsSound most_runs (receiver_after_command most_runs v c)

-- ---- How a ring and a set of offsets represent what a receiver stores.
-- the bytes of the spare part at the offsets of a set, by their positions
abbrev pub held_bytes : Positions → ℕ → List ℕ → HeldBytes
held_bytes s n spare = fin.from_entries (map (λ p. (n + p, slice_index spare p)) (positions s))

-- what a receiver of these numbers, queue, spare part and offsets stores
abbrev pub parts : ℕ → ℕ → List ℕ → List ℕ → Positions → ReceiverState
parts f r queue spare s = record {
  first = f;
  capacity = length queue + length spare;
  read = r;
  queue = queue;
  held = held_bytes s (f + r + length queue) spare;
}

-- positions stay within 64 bits
pub record Fits64Bits (v : ReceiverState) : Type 0 where
  pub next : next_position v < 2 ^ 64
  pub held : (p : ℕ) → fin.contains_key v.held p ≡ true → p + 1 < 2 ^ 64

-- each run is a pair (start, end) that rises, and ends below a limit
abbrev pub EndBelow : ℕ → List (ℕ × ℕ) → Type 0
EndBelow limit rs = All (λ r. (r.0 < r.1) × (r.1 < limit)) rs

-- the start and the end of a range, if there is one
abbrev pub pair_of : Option (Range ℕ) → Option (ℕ × ℕ)
pair_of (Some range) = Some (range.start, range.end)
pair_of None = None

-- what is stored, as the tuple of its fields
abbrev pub receiver_code : Coded ReceiverState
receiver_code =
    code_by (ℕ × (ℕ × (ℕ × (List ℕ × HeldBytes))))
    (coded× coded_ℕ (coded× coded_ℕ (coded× coded_ℕ
    (coded× (coded_list coded_ℕ) (fin.code coded_ℕ coded_ℕ)))))
    (λ v. (v.first, (v.capacity, (v.read, (v.queue, v.held)))))
    (λ p. record {
      first = p.0;
      capacity = p.1.0;
      read = p.1.1.0;
      queue = p.1.1.1.0;
      held = p.1.1.1.1;
    })
    (λ _. refl)

-- ---- Where the queued bytes are in the storage, and how many of them are contiguous.
-- the index of the stream's byte number i, counted from 0: the storage is filled in order, and from
-- its beginning on again once its end is reached
abbrev pub index_of : ReceiverState → ℕ → ℕ
index_of v i = i % v.capacity

-- how many bytes of the queue are contiguous, from the first one on
abbrev pub contiguous_count : ReceiverState → ℕ
contiguous_count v = min (length v.queue) (v.capacity - index_of v v.read)

-- of at most n bytes of the queue from byte o on, how many are contiguous; none if o is past the
-- queue
abbrev pub contiguous_count_from : ReceiverState → ℕ → ℕ → ℕ
contiguous_count_from v o n = min n (min (length v.queue - o) (v.capacity - index_of v (v.read + o)))

-- the bytes of the queue up to the storage's end
abbrev pub first_part : ReceiverState → List ℕ
first_part v = take (contiguous_count v) v.queue

-- those from its beginning on: the rest of the queue after the first part
abbrev pub second_part : ReceiverState → List ℕ
second_part v = drop (contiguous_count v) v.queue

-- a ring is read at the index of the stream's byte number i
abbrev pub IsReadAt : RingState ℕ → ℕ → Type 0
IsReadAt g i = 0 < length g.storage → g.read_at ≡ i % length g.storage

-- ---- What happens to one segment, whose bytes in the free window are xs.
-- any segment: a refused one changes nothing, of any other xs is kept; the first missing position
-- moves up by as many positions as bytes join the queue, and nothing is read
pub record KeepsOrRefuses (v : ReceiverState) (xs : List ℕ) (u : ReceiverState)
    (r : Result Kept TooManyHolesError) : Type 0 where
  pub refused : OnErr r (u ≡ v)
  pub kept : IfOk r (λ k. k.kept ≡ length xs)
  pub queued : IfOk r (λ k. next_position u ≡ next_position v + k.queued)
  pub grows : next_position v ≤ next_position u
  pub read : u.read ≡ v.read

-- one that begins at or below the first missing position: it is accepted, and the queue then goes
-- on with xs, and with what was held after it
pub record JoinsQueue (v : ReceiverState) (xs : List ℕ) (u : ReceiverState)
    (r : Result Kept TooManyHolesError) : Type 0 where
  pub accepted : IsOk r
  pub joins : IfOk r (λ k. k.kept ≤ k.queued)
  pub appends : u.queue ≡ v.queue ++ xs ++ drop (length v.queue + length xs) u.queue

abbrev pub existing : ℕ → List ℕ → List ℕ
existing p xs = take (2 ^ 64 - 1 - p) xs

-- of the positions of n bytes at p, those from `next` on and below `limit` that aren't held
abbrev pub count_between : ℕ → ℕ → Positions → ℕ → ℕ → ℕ
count_between next limit held p n =
    count_by (λ q. nat_le next q && nat_lt q limit && not (contains held q)) (range_with_len p n)

-- of the positions of a segment of n bytes at p, those in the free window whose bytes are not held
abbrev pub new_count : ReceiverState → ℕ → ℕ → ℕ
new_count v p n = count_between (next_position v) (limit_of v) (domain v.held) p n
