-- The crate's commands and replies as those of a schedule, and the statements on schedules that the calls' contracts
-- name.
--     command_value c, command_values cs, reply_value r      these, as a schedule has them
--     items_after old new, new_replies old new      what was pushed after old, and those replies
--     ValueFits c, CommandFits c      the end of its segment, if it is one, is a position
--     IsSegment c      it is a segment, which asks for no memory
--     ExecutedPrefix cs complete      how many of the commands were executed
--     Executes N v u cs rs complete      what cs leave stored, and their replies
--     ExecutesFor N v u cs rs complete s      what cs did to a receiver that represented s
--     AreAlike w s z t      what `same_state` compares of two states
--     Converges v u same, TellsStates v u same      when `same_state` finds two receivers the same
--     FreshRefines, EverySchedule, TellsNext, TellsHeld, TellsFresh      laws on what a receiver represents
--     SoundRepresents, PartsRepresent      every receiver represents some state
--     GrownRepresents      one with more room represents the same state
-- The laws of listed runs, and of calls of `replay`, one after another.
--     ListsRuns held sack      sack lists the first three runs of held positions
--     Replays N v calls u      what calls of `replay`, one after another, store
--     Composes N v calls u      these calls do what one call does
-- The others are laws, and what they name.
use Rattle.std.specs.Prelude.{◌≡◌, ◌↔◌, ℕ, ◌+◌, ◌-◌, ◌<◌, ◌≤◌, ◌^◌, ◌⊎◌, ⊤, Bool, true, IsTrue, Option, Some, None}
use Rattle.std.specs.Prelude.{Ok, All}
use Rattle.std.specs.Prelude.{List, [], ◌∷◌, ◌++◌, map, flat_map, length, take, drop, slice_range, AllPairs, count_by}
use Rattle.net_assembler.specs.Positions.{contains, Positions, lies_in, IsMaximalRun}
use Rattle.net_receiver.specs.Headline.{CommandValue, Segment, Read, Show, ReplyValue, SegmentReply, ReadReply}
use Rattle.net_receiver.specs.Headline.{ShowReply, is_covered, missing, queue, is_held, held_runs, replies_from}
use Rattle.net_receiver.specs.Headline.{state_from}
use Rattle.net_receiver.specs.Schedule.{Setting, KeptState, fresh_kept, bytes_read, Agrees, Follows, EndsBy, IsAccepted}
use Rattle.net_receiver.specs.ReceiverState.{ReceiverState, domain, next_position, fresh_receiver, setting}
use Rattle.net_receiver.specs.ReceiverState.{receiver_after_commands, receiver_replies, Refines, IsSound, Verdict}
use Rattle.net_receiver.specs.ReceiverState.{state_after, segment_result, first_three}
use Rattle.net_receiver.specs.declared.receiver_head.ReceiverHead.{ReceiverHead}
use Rattle.net_receiver.specs.Head.{receiver_of, HasSoundParts}
use Rattle.net_receiver.specs.declared.kept.Kept.{Kept}
use Rattle.net_receiver.specs.declared.schedule.Command.{Command}
use Rattle.net_receiver.specs.declared.schedule.Reply.{Reply}
use Rattle.net_receiver.specs.declared.schedule.Command.TheVariants as commands
use Rattle.net_receiver.specs.declared.schedule.Reply.TheVariants as replies

-- ---- commands and replies
-- what was pushed after old
abbrev pub items_after : {A : Type 0} → List A → List A → List A
items_after old new = drop (length old) new

-- a command as a schedule has it
abbrev pub command_value : {A : Type 0} → Command A → CommandValue
command_value (commands.Segment pos bytes) = Segment pos bytes.items
command_value (commands.Read count) = Read count
command_value commands.Show = Show

-- a reply as a schedule has it
abbrev pub reply_value : {A : Type 0} → Reply A → ReplyValue
reply_value (replies.Segment result) = SegmentReply result
reply_value (replies.Read bytes) = ReadReply bytes.items
reply_value (replies.Show next queued window held) = ShowReply next queued window held.items

-- a list of commands as a schedule
abbrev pub command_values : {A : Type 0} → List (Command A) → List CommandValue
command_values commands = map command_value commands

-- the replies that were pushed after old ones
abbrev pub new_replies : {A : Type 0} → List (Reply A) → List (Reply A) → List ReplyValue
new_replies old new = map reply_value (items_after old new)

-- a segment ends below 2^64
abbrev pub ValueFits : CommandValue → Type 0
ValueFits (Segment pos bytes) = pos + length bytes < 2 ^ 64
ValueFits (Read count) = Unit {0}
ValueFits Show = Unit {0}

-- a command's segment, if it is one, ends below 2^64
abbrev pub CommandFits : {A : Type 0} → Command A → Type 0
CommandFits c = ValueFits (command_value c)

-- a segment, which asks for no memory, however long it is
abbrev pub IsSegment : CommandValue → Type 0
IsSegment (Segment pos bytes) = Unit {0}
IsSegment (Read count) = ⊥
IsSegment Show = ⊥

-- ---- schedules
-- how many of these commands were executed, from the first on and no others: all of them if it is
-- complete
pub record ExecutedPrefix (cs : List CommandValue) (complete : Type 0) : Type 0 where
  pub count : ℕ
  pub within : count ≤ length cs
  pub whole : complete → count ≡ length cs

-- what a prefix of the commands leaves stored, and its replies
pub record Executes (most_runs : ℕ) (v u : ReceiverState) (cs : List CommandValue) (rs : List ReplyValue)
    (complete : Type 0) : Type 0 where
  pub prefix : ExecutedPrefix cs complete
  pub state : u ≡ receiver_after_commands most_runs v (take prefix.count cs)
  pub replies : rs ≡ receiver_replies most_runs v (take prefix.count cs)

-- the same for a schedule's state that v represents: u represents the state that the prefix leaves, and the replies
-- are those of the schedule. The bytes that were read, and then the queue, are those of every stream with which the
-- kept pieces then agree (`stream`). If the segments follow on from the first missing position, each reply to one
-- says that it was accepted (`accepts`). If all commands were executed too, the ends of all segments are reached
-- (`recovers`).
pub record ExecutesFor (most_runs : ℕ) (v u : ReceiverState) (cs : List CommandValue) (rs : List ReplyValue)
    (complete : Type 0) (s : KeptState) : Type 0 where
  pub prefix : ExecutedPrefix cs complete
  pub refines : Refines u (state_from (setting most_runs v) s (take prefix.count cs))
  pub replies : rs ≡ replies_from (setting most_runs v) s (take prefix.count cs)
  pub stream : (x : List ℕ) →
      Agrees v.first (state_from (setting most_runs v) s (take prefix.count cs)).kept x →
      bytes_read rs ++ u.queue
      ≡ slice_range x s.read
      (missing (setting most_runs v) (state_from (setting most_runs v) s (take prefix.count cs)) - v.first)
  pub accepts : Follows (setting most_runs v) s (missing (setting most_runs v) s) cs → All IsAccepted rs
  pub recovers : complete → Follows (setting most_runs v) s (missing (setting most_runs v) s) cs →
      EndsBy (missing (setting most_runs v) (state_from (setting most_runs v) s cs)) cs

-- two receivers that represent kept lists which agree with one byte list and cover the same
-- positions, with as many bytes read, are found the same
abbrev pub Converges : ReceiverState → ReceiverState → Bool → Type 0
Converges v u same = (x : List ℕ) (s t : KeptState) → Refines v s → Refines u t →
    v.first ≡ u.first → Agrees v.first s.kept x → Agrees v.first t.kept x →
    ((p : ℕ) → is_covered s.kept p ≡ is_covered t.kept p) → s.read ≡ t.read → same ≡ true

-- two states are equal in what `same_state` compares, w and z being their settings
-- (`IsSameState` has no first missing position: it follows from a receiver's parts, and not from any state's)
abbrev pub AreAlike : Setting → KeptState → Setting → KeptState → Type 0
AreAlike w s z t =
    (w.first ≡ z.first) × (s.read ≡ t.read) × (missing w s ≡ missing z t) × (queue w s ≡ queue z t)
    × (held_runs w s ≡ held_runs z t)

-- the test is true exactly if the states that two receivers represent are equal in that
abbrev pub TellsStates : ReceiverState → ReceiverState → Bool → Type 0
TellsStates v u same = (s t : KeptState) → Refines v s → Refines u t →
    (same ≡ true) ↔ AreAlike (setting 0 v) s (setting 0 u) t

-- a fresh receiver represents the state in which nothing was kept or read
abbrev pub FreshRefines : Type 0
FreshRefines = (first capacity : ℕ) → Refines (fresh_receiver first capacity) fresh_kept

-- what is stored goes on representing a schedule's state, and the replies are the same, over every
-- list of commands
abbrev pub EverySchedule : Type 0
EverySchedule = (most_runs : ℕ) (v : ReceiverState) (s : KeptState) → Refines v s → (cs : List CommandValue) →
    Refines (receiver_after_commands most_runs v cs) (state_from (setting most_runs v) s cs)
    × (receiver_replies most_runs v cs ≡ replies_from (setting most_runs v) s cs)

-- the first missing position of a receiver is that of the state it represents
abbrev pub TellsNext : Type 0
TellsNext = (v : ReceiverState) (s : KeptState) → Refines v s → next_position v ≡ missing (setting 0 v) s

-- and so are the positions that are held
abbrev pub TellsHeld : Type 0
TellsHeld = (v : ReceiverState) (s : KeptState) → Refines v s → (p : ℕ) →
    contains (domain v.held) p ≡ is_held (setting 0 v) s p

-- what a fresh receiver stores represents the fresh state
abbrev pub TellsFresh : Type 0
TellsFresh = (first : ℕ) (v : ReceiverState) → v ≡ fresh_receiver first v.capacity → Refines v fresh_kept

-- some kept list and count of bytes read are represented by what is stored
abbrev pub RepresentsSome : ReceiverState → Type 0
RepresentsSome v = (s : KeptState) × Refines v s

-- every receiver represents some, whether it was made by commands or from parts
abbrev pub SoundRepresents : Type 0
SoundRepresents = (most_runs : ℕ) (v : ReceiverState) → IsSound most_runs v → RepresentsSome v

-- and so do every head, storage and runs that are sound
abbrev pub PartsRepresent : Type 0
PartsRepresent = (h : ReceiverHead) (xs : List ℕ) (rs : List (ℕ × ℕ)) →
    HasSoundParts h (length xs) rs → RepresentsSome (receiver_of h xs rs)

-- a receiver that was moved to a larger storage represents the state that it represented before
abbrev pub GrownRepresents : Type 0
GrownRepresents = (v : ReceiverState) (s : KeptState) (capacity : ℕ) → v.capacity ≤ capacity → Refines v s →
    Refines (record v { capacity = capacity }) s

-- ---- listed runs
-- the runs of a list, some of whose entries are missing
abbrev pub runs_of_sack : List (Option (ℕ × ℕ)) → List (ℕ × ℕ)
runs_of_sack [] = []
runs_of_sack (Some run ∷ entries) = run ∷ runs_of_sack entries
runs_of_sack (None ∷ entries) = runs_of_sack entries

-- three entries, of which the first ones are maximal runs of held positions, which rise with a hole
-- between neighbours; each held position is in one of them, or three are listed and it is
-- above
pub record ListsRuns (held : Positions) (sack : List (Option (ℕ × ℕ))) : Type 0 where
  pub entries : sack ≡ first_three (runs_of_sack sack)
  pub maximal : All (IsMaximalRun held) (runs_of_sack sack)
  pub rising : AllPairs (λ q r. q.1 < r.0) (runs_of_sack sack)
  pub complete : (p : ℕ) → IsTrue (contains held p) →
      (count_by (lies_in p) (runs_of_sack sack) ≡ 1)
      ⊎ ((length (runs_of_sack sack) ≡ 3) × All (λ r. r.1 < p) (runs_of_sack sack))

-- the result of each accepted segment lists the held runs after it, whether bytes of it were kept
-- or none
abbrev pub ListsHeldRuns : Type 0
ListsHeldRuns = (v : ReceiverState) (x : Verdict) (kept : Kept) → segment_result v x ≡ Ok kept →
    ListsRuns (domain (state_after v x).held) kept.sack

-- ---- calls of `replay`, one after another
-- a call by its commands and the replies that it appended, and whether it returned Ok
pub record ReplayCall : Type 0 where
  pub commands : List CommandValue
  pub replies : List ReplyValue
  pub complete : Bool

-- what the contract of `replay` says of each call
abbrev pub Replays : ℕ → ReceiverState → List ReplayCall → ReceiverState → Type 0
Replays most_runs v [] u = u ≡ v
Replays most_runs v (call ∷ calls) u =
    (between : ReceiverState)
    × Executes most_runs v between call.commands call.replies (IsTrue call.complete)
    × Replays most_runs between calls u

-- cs is made of the first commands of each call in turn, and of all of them if the call is complete
abbrev pub ArePrefixes : List ReplayCall → List CommandValue → Type 0
ArePrefixes [] cs = cs ≡ []
ArePrefixes (call ∷ calls) cs =
    (prefix : ExecutedPrefix call.commands (IsTrue call.complete)) × (rest : List CommandValue)
    × (cs ≡ take prefix.count call.commands ++ rest) × ArePrefixes calls rest

-- the calls did what one complete call does with the commands that they executed
pub record Composes (most_runs : ℕ) (v : ReceiverState) (calls : List ReplayCall) (u : ReceiverState)
    : Type 0 where
  pub commands : List CommandValue
  pub prefixes : ArePrefixes calls commands
  pub stored : Executes most_runs v u commands (flat_map (λ call. call.replies) calls) ⊤
  pub for_states : (s : KeptState) → Refines v s →
      ExecutesFor most_runs v u commands (flat_map (λ call. call.replies) calls) ⊤ s

-- calls one after another do what one call does
abbrev pub CallsCompose : Type 0
CallsCompose = (most_runs : ℕ) (v u : ReceiverState) (calls : List ReplayCall) →
    Replays most_runs v calls u → Composes most_runs v calls u
