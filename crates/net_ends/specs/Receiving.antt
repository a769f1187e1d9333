-- The receiving end of a connection: a receiver of a stream that ends, what it announced, and whether an
-- acknowledgement is due.
--     Receiving, new_receiving capacity first size      the machine, and one at which nothing has arrived
--     opened e first scale, opening_field e first      what begins again with a peer, and what its SYN announces
--     free_end s      the end of the free room, as an announcement needs it: never below the number that it names
--     field_of e, promise e      the window that it announces now, and the right edge which that promises
--     is_worth e      whether an update of the window is worth a segment
--     listed e, reported e      the runs that an acknowledgement lists, and what came twice that it reports
--     blocks_of list, sack_blocks list      four blocks, where there are as many; those that there are
--     range_of block, range_at block, count_of blocks      a block as a range; so if there is one; how many before none
--     WaitsAfter e pos count d      what came twice waits to be reported, once a segment of so many bytes has come
--     is_next N s pos xs last      whether a segment adds to the queue and leaves no hole
--     Event, after_event, after_events      what happens to an end, and what that leaves
--     commands es      the receiver's commands that they come to
--     IsSoundReceiving e      what is true of every end
use Rattle.std.specs.Prelude.{◌≤◌, ℕ, ◌+◌, ◌-◌, ◌^◌, min, max, Option, Result, Ok, Err}
use Rattle.std.specs.Prelude.{Bool, false, not, ◌&&◌, nat_lt, nat_le, nat_eq, if◌then◌else◌, List, [], ◌∷◌}
use Rattle.std.specs.Prelude.{◌≡◌, ◌++◌, ◌||◌, None, Some, length, slice_get, map, take, is_some}
use Rattle.std.specs.declared.ops.Range.{Range}
use Rattle.std.specs.Option.{option_or}
use Rattle.net_assembler.specs.Positions.{runs}
use Rattle.net_receiver.specs.ReceiverState.{ReceiverState, domain, limit_of, next_position}
use Rattle.net_receiver.specs.Duplicates.{came, TellsPart}
use Rattle.net_receiver.specs.NewestRuns.{newest_runs, with_starts}
use Rattle.net_receiver.specs.Finite.{FiniteState, fresh_finite, finite_after, finite_result, finite_after_read}
use Rattle.net_receiver.specs.Finite.{acknowledged, is_complete, FiniteCommand, Arrives, Reads, IsSoundEnd}
use Rattle.net_receiver.specs.declared.kept.FiniteError.{FiniteError}
use Rattle.net_receiver.specs.declared.kept.KeptBytes.{KeptBytes}
use Rattle.net_tcp.specs.Windows.{announced, shift_count, worth, gain, field_for}

-- `newest` is the position of the newest segment, `recent` the starts of the runs that were listed last,
-- `duplicate` what came twice and wasn't reported yet, and `unanswered` how many segments wait for an acknowledgement,
-- two at most
pub record Receiving : Type 0 where
  pub receiver : FiniteState
  pub edge : ℕ
  pub scale : ℕ
  pub size : ℕ
  pub newest : ℕ
  pub recent : List ℕ
  pub duplicate : Option (ℕ × ℕ)
  pub unanswered : ℕ

-- over so many bytes of storage; nothing has arrived, and nothing was announced
abbrev pub new_receiving : ℕ → ℕ → ℕ → Receiving
new_receiving capacity first size = record {
  receiver = fresh_finite first capacity;
  edge = first;
  scale = 0;
  size = size;
  newest = first;
  recent = 0 ∷ 0 ∷ 0 ∷ 0 ∷ [];
  duplicate = None;
  unanswered = 0;
}

-- ---- what is announced
-- a position is at most the last one of 64 bits
abbrev pub free_end : FiniteState → ℕ
free_end s = if nat_lt (limit_of s.receiver) (2 ^ 64) then max (limit_of s.receiver) (acknowledged s) else 2 ^ 64 - 1

-- the edge would move by what is worth a segment of its own
abbrev pub is_worth : Receiving → Bool
is_worth e = nat_le (worth e.receiver.receiver.capacity e.size)
    (gain e.edge (shift_count e.scale) (acknowledged e.receiver) (free_end e.receiver))

-- the window reaches to the end of the free room if that is worth it, and else to what was promised
abbrev pub announced_end : Receiving → ℕ
announced_end e = if is_worth e then free_end e.receiver else min e.edge (free_end e.receiver)

abbrev pub field_of : Receiving → ℕ
field_of e = field_for (shift_count e.scale) (announced_end e - acknowledged e.receiver)

abbrev pub promise : Receiving → ℕ
promise e = announced (acknowledged e.receiver) (shift_count e.scale) (field_of e)

-- a SYN announces the window without a scale
abbrev pub opening_field : Receiving → ℕ → ℕ
opening_field e first = field_for 0 (free_end (fresh_finite first e.receiver.receiver.capacity) - first)

abbrev pub opened : Receiving → ℕ → ℕ → Receiving
opened e first scale = record (new_receiving e.receiver.receiver.capacity first e.size) {
  edge = max first (announced first 0 (opening_field e first));
  scale = scale;
}

-- ---- what an acknowledgement lists
abbrev pub listed : Receiving → List (ℕ × ℕ)
listed e = newest_runs 4 (domain e.receiver.receiver.held) (e.newest ∷ e.recent)

-- an end in order lets go of what was held beyond it
abbrev pub is_reported : ℕ → Bool → ℕ × ℕ → Bool
is_reported next complete part = nat_le part.1 next || not complete

abbrev pub part_reported : ℕ → Bool → Option (ℕ × ℕ) → List (ℕ × ℕ)
part_reported next complete None = []
part_reported next complete (Some part) = if is_reported next complete part then part ∷ [] else []

abbrev pub reported_of : FiniteState → Option (ℕ × ℕ) → List (ℕ × ℕ)
reported_of s d = part_reported (acknowledged s) (is_complete s) d

abbrev pub reported : Receiving → List (ℕ × ℕ)
reported e = reported_of e.receiver e.duplicate

abbrev pub blocks_of : List (ℕ × ℕ) → List (Option (ℕ × ℕ))
blocks_of list = slice_get list 0 ∷ slice_get list 1 ∷ slice_get list 2 ∷ slice_get list 3 ∷ []

abbrev pub range_of : ℕ × ℕ → Range ℕ
range_of block = record { start = block.0; end = block.1 }

abbrev pub range_at : Option (ℕ × ℕ) → Range ℕ
range_at None = record { start = 0; end = 0 }
range_at (Some block) = range_of block

abbrev pub count_of : List (Option (ℕ × ℕ)) → ℕ
count_of [] = 0
count_of (b ∷ bs) = if is_some b then 1 + count_of bs else 0

abbrev pub sack_blocks : List (ℕ × ℕ) → List (Range ℕ)
sack_blocks list = map range_of (take 4 list)

-- ---- segments
-- it has neither a byte nor the end
abbrev pub is_empty : List ℕ → Bool → Bool
is_empty xs last = nat_eq (length xs) 0 && not last

-- it added to the queue
abbrev pub adds : Result KeptBytes FiniteError → Bool
adds (Ok kept) = nat_lt 0 kept.queued
adds (Err e) = false

-- it added to the queue where nothing was held, and the end wasn't in it
abbrev pub is_next : ℕ → FiniteState → ℕ → List ℕ → Bool → Bool
is_next most_runs s pos xs last = nat_eq (runs (domain s.receiver.held)) 0 && not last
    && adds (finite_result most_runs s pos xs last)

abbrev pub arrival_result : ℕ → FiniteState → ℕ → List ℕ → Bool → Result KeptBytes FiniteError
arrival_result most_runs s pos xs last =
    if is_empty xs last then Ok (record { kept = 0; queued = 0 }) else finite_result most_runs s pos xs last

-- ---- what came twice
abbrev pub has_come : ReceiverState → ℕ → Bool
has_come v q = came v.first (next_position v) (domain v.held) q

-- what of a segment of so many bytes came before, if any of it did, or else what waited before it
abbrev pub WaitsAfter : Receiving → ℕ → ℕ → Option (ℕ × ℕ) → Type 0
WaitsAfter e pos count d = (part : Option (ℕ × ℕ))
    × TellsPart (has_come e.receiver.receiver) pos (pos + min count (2 ^ 64 - 1 - pos)) part
    × (d ≡ option_or part e.duplicate)

-- ---- what happens
-- a segment arrives, from whomever, and what came twice and waits to be reported then; an acknowledgement is asked for;
-- a segment with bytes of its own announces, or one without bytes does; and bytes are read
pub data Event : Type 0 where
  Arrived : ℕ → List ℕ → Bool → Option (ℕ × ℕ) → Event
  Answered : Event
  Announced : Event
  Acknowledged : Event
  Took : ℕ → Event

abbrev pub after_arrival : ℕ → Receiving → ℕ → List ℕ → Bool → Option (ℕ × ℕ) → Receiving
after_arrival most_runs e pos xs last d = record e {
  receiver = finite_after most_runs e.receiver pos xs last;
  newest = pos;
  duplicate = d;
  unanswered = if is_next most_runs e.receiver pos xs last then min (e.unanswered + 1) 2 else 2;
}

abbrev pub after_event : ℕ → Receiving → Event → Receiving
after_event most_runs e (Arrived pos xs last d) =
    if is_empty xs last then e else after_arrival most_runs e pos xs last d
after_event most_runs e Answered = record e { unanswered = 2 }
after_event most_runs e Announced = record e {
  edge = max e.edge (promise e);
  unanswered = if nat_lt e.unanswered 2 then 0 else e.unanswered;
}
after_event most_runs e Acknowledged = record e {
  edge = max e.edge (promise e);
  recent = with_starts e.recent (listed e);
  duplicate = None;
  unanswered = 0;
}
after_event most_runs e (Took n) = record e { receiver = finite_after_read e.receiver n }

abbrev pub after_events : ℕ → Receiving → List Event → Receiving
after_events most_runs e [] = e
after_events most_runs e (v ∷ vs) = after_events most_runs (after_event most_runs e v) vs

-- the receiver's commands that they come to
abbrev pub commands_of : Event → List FiniteCommand
commands_of (Arrived pos xs last d) = if is_empty xs last then [] else Arrives pos xs last ∷ []
commands_of Answered = []
commands_of Announced = []
commands_of Acknowledged = []
commands_of (Took n) = Reads n ∷ []

abbrev pub commands : List Event → List FiniteCommand
commands [] = []
commands (v ∷ vs) = commands_of v ++ commands vs

-- ---- what is true of every end
-- it promised no more than there is room for, and no more than a number can say
pub record IsSoundReceiving (e : Receiving) : Type 0 where
  pub end : IsSoundEnd e.receiver
  pub room : e.edge ≤ free_end e.receiver
  pub reach : e.edge ≤ announced (acknowledged e.receiver) (shift_count e.scale) 65535
