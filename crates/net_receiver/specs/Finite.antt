-- A stream that ends, and a receiver of it: what it stores, and where the stream ends.
--     no_end      the end's position while that isn't known
--     top_of v      the first missing position, or the end of the last held run if that is greater
--     FiniteState, fresh_finite first capacity      what a receiver stores, and the end
--     knows_end s, can_end s e      whether the end is known; whether it can be e
--     can_end_by end top e      whether it can, if `end` is known, and the bytes end at `top`
--     bytes_end s, below_end s pos xs      the end of the bytes that it takes; those of a segment below it
--     end_after s e last      the end that is known after a segment, which itself ends at e
--     queue_only v, queue_alone s      the queue, without what is held; and without an end
--     ends_in_order s pos e      a last segment from pos to e ends the stream in order
--     before_segment s pos e last      what such a segment meets, or another one
--     finite_after N s pos xs last, finite_result N s pos xs last      what a segment leaves, and its result
--     usual_after N s pos xs last, usual_result N s pos xs last      the same by what it meets
--     finite_after_read s n      what a read leaves
--     is_complete s, acknowledged s, has_read_all s      what it says of the end
--     IsSoundEnd s      what is true of every such receiver
--     finite_code      what is stored, as a code
-- The laws of a receiver of a stream that ends.
--     FiniteCommand      a segment, which is the last one or isn't, or a read
--     finite_after_commands N s cs, bytes_taken N s cs      what they leave, and the bytes that the reads took
--     FiniteCommandFits c      the segment's end has a position, and an end a number
--     MatchesFinite f x pos xs last      the segment is one of the stream x, which begins at f, and ends after its
--         last byte
--     ReceivesFinite f x s      the receiver took only such segments
-- The others are laws.
-- Laws of lists of segments and reads of a receiver of a stream that ends, as those of a receiver's commands.
--     plain_of s c      the receiver's commands that one comes to
--     without_held w k      a schedule's state without what is held
--     kept_before s k c, kept_after N s k c      a schedule's state before the commands that one comes to, and after
--     kept_after_all N s k cs, replies_to_all N s k cs      its state after those of several, and the replies to them
--     AreAccepted N s cs      no segment is refused
--     BringsByte cs p, BringsEnd cs e      a segment has the position p; a last one ends at e
--     Resends N s reach cs      each segment begins at or below the position reached, and ends within the free
--         window at that time
--     EndsWithin n c      a segment's end is at most n
-- The others are laws.
use Rattle.std.specs.Prelude.{◌≡◌, ℕ, ◌+◌, ◌-◌, ◌<◌, ◌≤◌, ◌^◌, max, min, Bool, ◌&&◌, not, if◌then◌else◌, List, length}
use Rattle.std.specs.Prelude.{take, nat_lt, nat_le, nat_eq, is_ok, Result, Ok, Err, refl, true, false, IsOk, IsTrue}
use Rattle.std.specs.Prelude.{IsFalse, [], ◌∷◌, ◌++◌, All, ◌⊎◌, drop, map, None}
use Rattle.std.specs.Coded.{Coded, code_by, coded×, coded_ℕ}
use Rattle.net_receiver.specs.ReceiverState.{receiver_code, Segment, verdict, numbers, ReceiverState, domain}
use Rattle.net_receiver.specs.ReceiverState.{fresh_receiver, next_position, limit_of, receiver_after_command}
use Rattle.net_receiver.specs.ReceiverState.{receiver_after_read, IsSound, Refines, CommandValue, Read, setting}
use Rattle.net_assembler.specs.declared.assembler.error.TooManyHolesError.{TooManyHolesError}
use Rattle.net_assembler.specs.Positions.{bound_of, positions}
use Rattle.net_receiver.specs.declared.kept.FiniteError.{FiniteError}
use Rattle.net_receiver.specs.declared.kept.KeptBytes.{KeptBytes}
use Rattle.net_receiver.specs.Schedule.{piece, piece_within, KeptState, Setting, bytes_read}
use Rattle.net_receiver.specs.OneStream.{HasByteAt, MatchesStream, ReceivesFrom}
use Rattle.net_receiver.specs.Headline.{state_from, replies_from, missing, ReplyValue}
use Rattle.std.specs.FinMap as fin
use Rattle.net_receiver.specs.declared.kept.FiniteError.TheVariants as errors

-- ---- A stream that ends, and a receiver of it: what it stores, and where the stream ends.
-- the greatest number of 64 bits: it is no end's position, since the end has a number after it
abbrev pub no_end : ℕ
no_end = 2 ^ 64 - 1

-- the first missing position, or the position after the last held byte if there is one
abbrev pub top_of : ReceiverState → ℕ
top_of v = max (next_position v) (bound_of (positions (domain v.held)))

-- what a receiver stores, and the position after the stream's last byte, or `no_end`
pub record FiniteState : Type 0 where
  pub receiver : ReceiverState
  pub end : ℕ

-- nothing has arrived
abbrev pub fresh_finite : ℕ → ℕ → FiniteState
fresh_finite first capacity = record { receiver = fresh_receiver first capacity; end = no_end }

-- an end has arrived
abbrev pub knows_end : FiniteState → Bool
knows_end s = nat_lt s.end no_end

-- e is the end that is known, or none is, and it isn't below the position after the last byte; it has a number after it
abbrev pub can_end_by : ℕ → ℕ → ℕ → Bool
can_end_by end top e = nat_lt e no_end && (if nat_lt end no_end then nat_eq e end else nat_le top e)

-- e is the end that is known, or none is, and it isn't below the first missing position or a held run's end; it has a
-- number after it
abbrev pub can_end : FiniteState → ℕ → Bool
can_end s e = can_end_by s.end (top_of s.receiver) e

-- all bytes and the end have arrived
abbrev pub is_complete : FiniteState → Bool
is_complete s = nat_eq (next_position s.receiver) s.end

-- ---- a segment, which is the stream's last one or isn't
-- the end, or while that isn't known the greatest number that an end can have
abbrev pub bytes_end : FiniteState → ℕ
bytes_end s = min s.end (no_end - 1)

-- its bytes below that
abbrev pub below_end : FiniteState → ℕ → List ℕ → List ℕ
below_end s pos xs = take (bytes_end s - pos) xs

-- the end is taken if it is not above the limit: it has a number, as a byte has, and needs no room
abbrev pub end_after : FiniteState → ℕ → Bool → ℕ
end_after s e last = if last && nat_le e (limit_of s.receiver) then e else s.end

-- it says that the stream ends where it can't
abbrev pub has_other_end : FiniteState → ℕ → Bool → Bool
has_other_end s e last = last && not (can_end s e)

-- the result of the bytes, with the errors of this receiver
abbrev pub with_error : Result KeptBytes TooManyHolesError → Result KeptBytes FiniteError
with_error (Ok kept) = Ok kept
with_error (Err e) = Err errors.TooManyHoles

module _ (most_runs : ℕ) (s : FiniteState) (pos : ℕ) (xs : List ℕ) (last : Bool) where
  -- the result of the bytes below the end
  abbrev pub bytes_result : Result KeptBytes TooManyHolesError
  bytes_result =
      numbers s.receiver (verdict most_runs s.receiver (piece pos (below_end s pos xs)))

  -- the result of the segment, which meets s
  abbrev pub usual_result : Result KeptBytes FiniteError
  usual_result =
      if has_other_end s (pos + length xs) last then Err errors.OtherEnd else with_error bytes_result

  -- what it leaves
  abbrev pub usual_after : FiniteState
  usual_after = if has_other_end s (pos + length xs) last then s else record {
    receiver = receiver_after_command most_runs s.receiver (Segment pos (below_end s pos xs));
    end = if is_ok bytes_result then end_after s (pos + length xs) last else s.end;
  }

-- ---- an end in order
-- a receiver that holds nothing
abbrev pub queue_only : ReceiverState → ReceiverState
queue_only v = record v { held = fin.empty }

-- the queue alone: nothing is held after it, and no end is known
abbrev pub queue_alone : FiniteState → FiniteState
queue_alone s = record { receiver = queue_only s.receiver; end = no_end }

-- while something is missing, a last segment from pos to e ends the stream in order if it has all that is missing
-- before its end, which is within the free window
abbrev pub ends_in_order : FiniteState → ℕ → ℕ → Bool
ends_in_order s pos e =
    nat_le pos (next_position s.receiver) && nat_le (next_position s.receiver) e && nat_le e (limit_of s.receiver)
    && nat_lt e no_end && not (is_complete s)

-- what a segment meets: one that ends the stream in order meets the queue alone, whatever came before beyond it
abbrev pub before_segment : FiniteState → ℕ → ℕ → Bool → FiniteState
before_segment s pos e last = if last && ends_in_order s pos e then queue_alone s else s

module _ (most_runs : ℕ) (s : FiniteState) (pos : ℕ) (xs : List ℕ) (last : Bool) where
  -- the result of the segment
  abbrev pub finite_result : Result KeptBytes FiniteError
  finite_result = usual_result most_runs (before_segment s pos (pos + length xs) last) pos xs last

  -- what it leaves
  abbrev pub finite_after : FiniteState
  finite_after = usual_after most_runs (before_segment s pos (pos + length xs) last) pos xs last

-- ---- a read, and what the receiver says of the end
-- what a read of at most n bytes leaves
abbrev pub finite_after_read : FiniteState → ℕ → FiniteState
finite_after_read s n = record { receiver = receiver_after_read s.receiver n; end = s.end }

-- the number that an acknowledgement carries: the first missing position, or the one after the end's own number
abbrev pub acknowledged : FiniteState → ℕ
acknowledged s = if is_complete s then s.end + 1 else next_position s.receiver

-- all bytes were read, up to the end
abbrev pub has_read_all : FiniteState → Bool
has_read_all s = nat_eq (s.receiver.first + s.receiver.read) s.end

-- no byte is at or above the end; and there is a number for an end after the last byte
pub record IsSoundEnd (s : FiniteState) : Type 0 where
  pub below : top_of s.receiver ≤ s.end
  pub number : top_of s.receiver < no_end

-- what is stored, as a code
abbrev pub finite_code : Coded FiniteState
finite_code =
    code_by (ReceiverState × ℕ) (coded× receiver_code coded_ℕ) (λ s. (s.receiver, s.end))
    (λ p. record { receiver = p.0; end = p.1 }) (λ _. refl)

-- ---- The laws of a receiver of a stream that ends.
-- ---- lists of segments and reads
pub data FiniteCommand : Type 0 where
  Arrives : ℕ → List ℕ → Bool → FiniteCommand
  Reads : ℕ → FiniteCommand

-- what one leaves
abbrev pub finite_after_command : ℕ → FiniteState → FiniteCommand → FiniteState
finite_after_command most_runs s (Arrives pos xs last) = finite_after most_runs s pos xs last
finite_after_command most_runs s (Reads n) = finite_after_read s n

-- the bytes that one takes
abbrev pub bytes_of : FiniteState → FiniteCommand → List ℕ
bytes_of s (Arrives pos xs last) = []
bytes_of s (Reads n) = take n s.receiver.queue

-- what several leave
abbrev pub finite_after_commands : ℕ → FiniteState → List FiniteCommand → FiniteState
finite_after_commands most_runs s [] = s
finite_after_commands most_runs s (c ∷ cs) = finite_after_commands most_runs (finite_after_command most_runs s c) cs

-- the bytes that the reads among them took, in order
abbrev pub bytes_taken : ℕ → FiniteState → List FiniteCommand → List ℕ
bytes_taken most_runs s [] = []
bytes_taken most_runs s (c ∷ cs) = bytes_of s c ++ bytes_taken most_runs (finite_after_command most_runs s c) cs

-- a segment fits
abbrev pub FiniteCommandFits : FiniteCommand → Type 0
FiniteCommandFits (Arrives pos xs last) = pos + length xs < no_end
FiniteCommandFits (Reads n) = Unit {0}

-- ---- one stream
-- the bytes are those of the stream, and if it is the last segment it ends where the stream ends
pub record MatchesFinite (f : ℕ) (x : List ℕ) (pos : ℕ) (xs : List ℕ) (last : Bool) : Type 0 where
  pub bytes : MatchesStream f x pos xs
  pub end : IsTrue last → pos + length xs ≡ f + length x

-- so is each segment
abbrev pub CommandMatches : ℕ → List ℕ → FiniteCommand → Type 0
CommandMatches f x (Arrives pos xs last) = MatchesFinite f x pos xs last
CommandMatches f x (Reads n) = Unit {0}

-- the receiver took only segments of the stream
pub record ReceivesFinite (f : ℕ) (x : List ℕ) (s : FiniteState) : Type 0 where
  pub bytes : ReceivesFrom f x s.receiver
  pub end : IsTrue (knows_end s) → s.end ≡ f + length x

-- ---- laws
-- what is true of every receiver is true of a fresh one, and stays true
abbrev pub FreshEndIsSound : Type 0
FreshEndIsSound = (first capacity : ℕ) → first < no_end → IsSoundEnd (fresh_finite first capacity)

abbrev pub SoundEndStays : Type 0
SoundEndStays = (most_runs : ℕ) (s : FiniteState) (c : FiniteCommand) → IsSoundEnd s →
    IsSoundEnd (finite_after_command most_runs s c)

-- an end that is known stays, or another one came in order, and all has arrived; once all has arrived, or all was
-- read, that stays so, whatever arrives later: no byte is queued any more, and end and acknowledgement stay
abbrev pub EndStays : Type 0
EndStays = (most_runs : ℕ) (s : FiniteState) (cs : List FiniteCommand) → IsSoundEnd s →
    let t = finite_after_commands most_runs s cs in
    (IsTrue (knows_end s) → (t.end ≡ s.end) ⊎ IsTrue (is_complete t))
    × (IsTrue (is_complete s) →
    IsTrue (is_complete t) × (t.end ≡ s.end) × (next_position t.receiver ≡ s.end) × (acknowledged t ≡ s.end + 1))
    × (IsTrue (has_read_all s) → IsTrue (has_read_all t))

-- a segment of the stream, whose end has a number after it, is never said to end it elsewhere; and each leaves a
-- receiver that took only such
abbrev pub SegmentOfStream : Type 0
SegmentOfStream = (most_runs f : ℕ) (x : List ℕ) (s : FiniteState) (pos : ℕ) (xs : List ℕ) (last : Bool) →
    ReceivesFinite f x s → MatchesFinite f x pos xs last →
    (pos + length xs < no_end → IsFalse (has_other_end s (pos + length xs) last))
    × ReceivesFinite f x (finite_after most_runs s pos xs last)

-- the bytes that were taken, from a fresh receiver on, are those of the stream from its first one on; all of
-- them once the receiver says so: so the bytes read, and then the end, are the stream
abbrev pub ReadsTheStream : Type 0
ReadsTheStream = (most_runs f capacity : ℕ) (x : List ℕ) (cs : List FiniteCommand) → f < no_end →
    All (CommandMatches f x) cs →
    let t = finite_after_commands most_runs (fresh_finite f capacity) cs in
    ReceivesFinite f x t
    × (bytes_taken most_runs (fresh_finite f capacity) cs ≡ take t.receiver.read x)
    × (IsTrue (has_read_all t) → bytes_taken most_runs (fresh_finite f capacity) cs ≡ x)

-- a segment that begins at or above the end is accepted, unless it says that the stream ends elsewhere: nothing of it
-- is kept, and nothing changes. One that says so is refused, if it doesn't end the stream in order
abbrev pub OnlyEndsDiffer : Type 0
OnlyEndsDiffer = (most_runs : ℕ) (s : FiniteState) (pos : ℕ) (xs : List ℕ) →
    (s.end ≤ pos →
    (finite_result most_runs s pos xs false ≡ Ok (record { kept = 0; queued = 0 }))
    × (finite_after most_runs s pos xs false ≡ s))
    × ((last : Bool) → IsTrue (has_other_end s (pos + length xs) last)
    → IsFalse (ends_in_order s pos (pos + length xs))
    → (finite_result most_runs s pos xs last ≡ Err errors.OtherEnd)
    × (finite_after most_runs s pos xs last ≡ s))

-- one that ends the stream in order is accepted, whatever was held, and whatever end was known. Then all has arrived:
-- its bytes from the first missing position on are queued, nothing is held, and the stream ends where it does
abbrev pub EndInOrder : Type 0
EndInOrder = (most_runs : ℕ) (s : FiniteState) (pos : ℕ) (xs : List ℕ) → IsSoundEnd s →
    IsTrue (ends_in_order s pos (pos + length xs)) →
    let t = finite_after most_runs s pos xs true in
    IsOk (finite_result most_runs s pos xs true) × (t.end ≡ pos + length xs) × IsTrue (is_complete t)
    × (t.receiver.queue ≡ s.receiver.queue ++ drop (next_position s.receiver - pos) xs)
    × ((p : ℕ) → fin.get t.receiver.held p ≡ None)

-- the number that an acknowledgement carries never falls
abbrev pub AcknowledgedGrows : Type 0
AcknowledgedGrows = (most_runs : ℕ) (s : FiniteState) (cs : List FiniteCommand) → IsSoundEnd s →
    acknowledged s ≤ acknowledged (finite_after_commands most_runs s cs)

-- the end of an accepted last segment is known, if it isn't above the end of the free window
abbrev pub EndIsTaken : Type 0
EndIsTaken = (most_runs : ℕ) (s : FiniteState) (pos : ℕ) (xs : List ℕ) →
    IsOk (finite_result most_runs s pos xs true) → pos + length xs ≤ limit_of s.receiver →
    (finite_after most_runs s pos xs true).end ≡ pos + length xs

-- a receiver that has each position below the end has all
abbrev pub AllBytesComplete : Type 0
AllBytesComplete = (most_runs : ℕ) (s : FiniteState) → IsSound most_runs s.receiver → IsSoundEnd s →
    ((p : ℕ) → next_position s.receiver ≤ p → p < s.end → HasByteAt s.receiver p) → IsTrue (is_complete s)

-- ---- Laws of lists of segments and reads of a receiver of a stream that ends, as those of a receiver's commands.
-- a segment without its bytes from the end on, or nothing if it says that the stream ends elsewhere
abbrev pub plain_of : FiniteState → FiniteCommand → List CommandValue
plain_of s (Arrives pos xs last) =
    let met = before_segment s pos (pos + length xs) last in
    if has_other_end met (pos + length xs) last then [] else Segment pos (below_end met pos xs) ∷ []
plain_of s (Reads n) = Read n ∷ []

-- a schedule's state in which nothing is held: of each piece, what is below the first missing position
abbrev pub without_held : Setting → KeptState → KeptState
without_held w k = record { kept = map (piece_within 0 (missing w k)) k.kept; read = k.read }

-- the state that a segment's commands meet: one that ends the stream in order meets nothing that is held
abbrev pub kept_before : FiniteState → KeptState → FiniteCommand → KeptState
kept_before s k (Arrives pos xs last) =
    if last && ends_in_order s pos (pos + length xs) then without_held (setting 0 s.receiver) k else k
kept_before s k (Reads n) = k

module _ (most_runs : ℕ) where
  -- the state after one command
  abbrev pub kept_after : FiniteState → KeptState → FiniteCommand → KeptState
  kept_after s k c = state_from (setting most_runs s.receiver) (kept_before s k c) (plain_of s c)

  -- after several, and the replies to them
  abbrev pub kept_after_all : FiniteState → KeptState → List FiniteCommand → KeptState
  kept_after_all s k [] = k
  kept_after_all s k (c ∷ cs) = kept_after_all (finite_after_command most_runs s c) (kept_after s k c) cs

  abbrev pub replies_to_all : FiniteState → KeptState → List FiniteCommand → List ReplyValue
  replies_to_all s k [] = []
  replies_to_all s k (c ∷ cs) =
      replies_from (setting most_runs s.receiver) (kept_before s k c) (plain_of s c)
      ++ replies_to_all (finite_after_command most_runs s c) (kept_after s k c) cs

-- no segment is refused
abbrev pub AreAccepted : ℕ → FiniteState → List FiniteCommand → Type 0
AreAccepted most_runs s [] = Unit {0}
AreAccepted most_runs s (Arrives pos xs last ∷ cs) =
    IsOk (finite_result most_runs s pos xs last) × AreAccepted most_runs (finite_after most_runs s pos xs last) cs
AreAccepted most_runs s (Reads n ∷ cs) = AreAccepted most_runs (finite_after_read s n) cs

-- a segment of cs has the position p
abbrev pub BringsByte : List FiniteCommand → ℕ → Type 0
BringsByte [] p = ⊥
BringsByte (Arrives pos xs last ∷ cs) p = ((pos ≤ p) × (p < pos + length xs)) ⊎ BringsByte cs p
BringsByte (Reads n ∷ cs) p = BringsByte cs p

-- a last segment ends at e
abbrev pub BringsEnd : List FiniteCommand → ℕ → Type 0
BringsEnd [] e = ⊥
BringsEnd (Arrives pos xs last ∷ cs) e = (IsTrue last × (pos + length xs ≡ e)) ⊎ BringsEnd cs e
BringsEnd (Reads n ∷ cs) e = BringsEnd cs e

-- each segment begins at or below the position reached, and ends within the free window at that time
abbrev pub Resends : ℕ → FiniteState → ℕ → List FiniteCommand → Type 0
Resends most_runs s reach [] = Unit {0}
Resends most_runs s reach (Arrives pos xs last ∷ cs) =
    (pos ≤ reach) × (pos + length xs ≤ limit_of s.receiver)
    × Resends most_runs (finite_after most_runs s pos xs last) (max reach (pos + length xs)) cs
Resends most_runs s reach (Reads n ∷ cs) = Resends most_runs (finite_after_read s n) reach cs

-- a segment's end is at most n
abbrev pub EndsWithin : ℕ → FiniteCommand → Type 0
EndsWithin n (Arrives pos xs last) = pos + length xs ≤ n
EndsWithin n (Reads m) = Unit {0}

-- ---- laws
-- the bytes are those of a schedule, of which a segment that ends the stream in order leaves what is held out: so the
-- headline is true of them, and each byte read or queued is that of the last segment that kept its position
abbrev pub FiniteSchedules : Type 0
FiniteSchedules = (most_runs : ℕ) (s : FiniteState) (k : KeptState) (cs : List FiniteCommand) → Refines s.receiver k →
    Refines (finite_after_commands most_runs s cs).receiver (kept_after_all most_runs s k cs)
    × (bytes_taken most_runs s cs ≡ bytes_read (replies_to_all most_runs s k cs))

-- if segments cover all missing positions up to an end within the free window, in any order and however they
-- overlap, and none is refused, the first missing position is then not below it, unless the stream ends before;
-- and if one says that the stream ends there, all has arrived, up to where one of them says so
abbrev pub FiniteCompletes : Type 0
FiniteCompletes = (most_runs : ℕ) (s : FiniteState) (cs : List FiniteCommand) (end : ℕ) →
    IsSound most_runs s.receiver → IsSoundEnd s → AreAccepted most_runs s cs → end < no_end →
    end ≤ limit_of s.receiver → ((p : ℕ) → next_position s.receiver ≤ p → p < end → BringsByte cs p) →
    let t = finite_after_commands most_runs s cs in
    (end ≤ t.end → end ≤ next_position t.receiver)
    × (BringsEnd cs end → BringsEnd cs t.end × IsTrue (is_complete t))

-- segments of the stream that begin at or below the position reached, from the first missing one on, and end
-- within the free window are all accepted, and then no end of them is missing; with the last one all has arrived
abbrev pub FiniteRecovers : Type 0
FiniteRecovers = (most_runs f : ℕ) (x : List ℕ) (s : FiniteState) (cs : List FiniteCommand) → IsSoundEnd s →
    ReceivesFinite f x s → All FiniteCommandFits cs → All (CommandMatches f x) cs →
    Resends most_runs s (next_position s.receiver) cs →
    let t = finite_after_commands most_runs s cs in
    AreAccepted most_runs s cs × All (EndsWithin (next_position t.receiver)) cs
    × (BringsEnd cs (f + length x) → IsTrue (is_complete t))

-- after any segments of a stream and any reads, such segments up to its end, and a read of what is queued then,
-- the stream was read
abbrev pub ResentIsRead : Type 0
ResentIsRead = (most_runs f capacity n : ℕ) (x : List ℕ) (before cs : List FiniteCommand) → f < no_end →
    All (CommandMatches f x) before → All FiniteCommandFits cs → All (CommandMatches f x) cs →
    let s = finite_after_commands most_runs (fresh_finite f capacity) before in
    let t = finite_after_commands most_runs s cs in
    Resends most_runs s (next_position s.receiver) cs → BringsEnd cs (f + length x) → length t.receiver.queue ≤ n →
    IsTrue (has_read_all (finite_after_read t n))
    × (bytes_taken most_runs (fresh_finite f capacity) (before ++ cs ++ Reads n ∷ []) ≡ x)
