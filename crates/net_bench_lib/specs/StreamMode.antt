-- Mode stream: a schedule of segments and reads, or two of them, one after the other.
--     StreamCommand, stream_command words      what a line says, if its words are a line of the mode
--     runs_text runs, reply_text reply      runs, and a reply, as text
--     Outcome, comparison a b      the values that two schedules are compared by, and the line that says the result
--     ScheduleOps S, kept_schedule_ops      what represents a schedule: here a kept list and a count read
--     Schedules S, first_schedule schedule_ops setting      the one or two schedules of an input
--     stream_rules schedule_ops, stream_closing schedule_ops schedules      the rules of the mode, and what
--         is written after the last line
use Rattle.std.specs.Prelude.{ℕ, ◌+◌, ◌^◌, ◌&&◌, ◌==◌, nat_lt, if◌then◌else◌, Bool, true, List, [], ◌∷◌, ◌++◌, length}
use Rattle.std.specs.Prelude.{flat_map, codes, bytes_eq, decimal, Option, Some, None, option_map, Result, Ok, Err}
use Rattle.std.specs.Cmp.Lexicographic.{pointwise}
use Rattle.net_receiver.specs.Headline.{Setting, KeptState, fresh_kept, CommandValue, Segment, Read, Show, ReplyValue}
use Rattle.net_receiver.specs.Headline.{SegmentReply, ReadReply, ShowReply, missing, queue, held_runs, step}
use Rattle.net_bench_lib.specs.Numeral.{number_of}
use Rattle.net_bench_lib.specs.Text.{hex_bytes, hex_text}
use Rattle.net_bench_lib.specs.Transcript.{Rules}
use Rattle.net_bench_lib.specs.AsmMode.{refused_text}
use Rattle.net_bench_lib.specs.declared.fault.Fault.{Fault}
use Rattle.net_bench_lib.specs.declared.fault.Fault.TheVariants as faults

-- ---- lines

-- what a line of the mode says: a command to the receiver, or the end of the first schedule
pub data StreamCommand : Type 0 where
  ToReceiver : CommandValue → StreamCommand
  NextSchedule : StreamCommand

-- a segment, if both of its words can be read
abbrev pub segment_command : Option ℕ → Option (List ℕ) → Option StreamCommand
segment_command (Some position) (Some bytes) = Some (ToReceiver (Segment position bytes))
segment_command _ _ = None

-- `?`, `--`, `r NUM` and `s NUM HEX`
abbrev pub stream_command : List (List ℕ) → Option StreamCommand
stream_command (verb ∷ []) =
    if bytes_eq verb (codes "?") then Some (ToReceiver Show)
    else if bytes_eq verb (codes "--") then Some NextSchedule
    else None
stream_command (verb ∷ number ∷ []) =
    if bytes_eq verb (codes "r")
    then option_map (λ count. ToReceiver (Read count)) (number_of number)
    else None
stream_command (verb ∷ position ∷ bytes ∷ []) =
    if bytes_eq verb (codes "s") then segment_command (number_of position) (hex_bytes bytes)
    else None
stream_command _ = None

-- whether the end of a segment fits 64 bits
abbrev pub end_fits : CommandValue → Bool
end_fits (Segment position bytes) = nat_lt (position + length bytes) (2 ^ 64)
end_fits (Read count) = true
end_fits Show = true

-- ---- replies

-- a run of positions: the first, and the first after it
abbrev pub run_text : ℕ × ℕ → List ℕ
run_text run = decimal run.0 ++ codes "-" ++ decimal run.1

-- a run after another
abbrev pub next_run_text : ℕ × ℕ → List ℕ
next_run_text run = codes "," ++ run_text run

-- runs, joined by commas: a dash for none
abbrev pub runs_text : List (ℕ × ℕ) → List ℕ
runs_text [] = codes "-"
runs_text (run ∷ runs) = run_text run ++ flat_map next_run_text runs

-- the runs before the first `None`
abbrev pub leading_runs : List (Option (ℕ × ℕ)) → List (ℕ × ℕ)
leading_runs (Some run ∷ runs) = run ∷ leading_runs runs
leading_runs _ = []

-- the reply to a segment that isn't refused
abbrev pub accepted_line : ℕ → ℕ → List (ℕ × ℕ) → List ℕ
accepted_line kept queued sack =
    codes "kept " ++ decimal kept ++ codes " queued " ++ decimal queued
    ++ codes " sack " ++ runs_text sack ++ codes "\n"

-- the reply line
abbrev pub reply_text : ReplyValue → List ℕ
reply_text (SegmentReply (Ok kept)) = accepted_line kept.kept kept.queued (leading_runs kept.sack)
reply_text (SegmentReply (Err refused)) = refused_text
reply_text (ReadReply bytes) = codes "read " ++ hex_text bytes ++ codes "\n"
reply_text (ShowReply next queued window held) =
    codes "next " ++ decimal next ++ codes " queued " ++ decimal queued
    ++ codes " window " ++ decimal window ++ codes " held " ++ runs_text held ++ codes "\n"

-- ---- the outcome of a schedule

-- the values that two schedules are compared by: the count of bytes read, the first missing
-- position, the bytes from the read ones up to there, and the maximal runs of held positions
pub record Outcome : Type 0 where
  pub read : ℕ
  pub next : ℕ
  pub queue : List ℕ
  pub held : List (ℕ × ℕ)

-- whether two runs are equal
abbrev pub same_run : ℕ × ℕ → ℕ × ℕ → Bool
same_run a b = (a.0 == b.0) && (a.1 == b.1)

-- whether two outcomes are equal
abbrev pub same_outcome : Outcome → Outcome → Bool
same_outcome a b =
    (a.read == b.read) && (a.next == b.next) && bytes_eq a.queue b.queue
    && pointwise same_run a.held b.held

-- the line that says whether two outcomes are equal
abbrev pub comparison : Outcome → Outcome → List ℕ
comparison a b = if same_outcome a b then codes "same\n" else codes "differs\n"

-- ---- rules

-- a representation of schedules: how one begins, the state after a command and its reply, and the outcome
pub record ScheduleOps (S : Type 0) : Type 0 where
  pub begun : Setting → S
  pub step : Setting → S → CommandValue → S × ReplyValue
  pub outcome : Setting → S → Outcome

-- the outcome of a kept list and a count of bytes read
abbrev pub kept_outcome : Setting → KeptState → Outcome
kept_outcome w s = record { read = s.read; next = missing w s; queue = queue w s; held = held_runs w s }

-- a schedule as its kept list and its count of bytes read, by the rules of the receiver's headline
abbrev pub kept_schedule_ops : ScheduleOps KeptState
kept_schedule_ops = record { begun = λ w. fresh_kept; step = step; outcome = kept_outcome }

-- the one or two schedules of an input
pub record Schedules (S : Type 0) : Type 0 where
  -- first position, capacity and most runs, the same for both
  pub setting : Setting
  -- the one that commands go to
  pub present : S
  -- the one that `--` ended
  pub ended : Option S

module _ {S : Type 0} (schedule_ops : ScheduleOps S) where
  -- the first schedule
  abbrev pub first_schedule : Setting → Schedules S
  first_schedule w = record { setting = w; present = schedule_ops.begun w; ended = None }

  -- a command to the receiver, and its reply
  abbrev pub after_command : Schedules S → CommandValue → Schedules S × List ℕ
  after_command schedules command_value =
      let done = schedule_ops.step schedules.setting schedules.present command_value in
      (record schedules { present = done.0 }, reply_text done.1)

  -- the second schedule begins, unless there is one: the receiver is a fresh one, and nothing is
  -- replied
  abbrev pub next_schedule : Schedules S → Option S → Result (Schedules S × List ℕ) Fault
  next_schedule schedules None =
      Ok (
        record schedules {
          present = schedule_ops.begun schedules.setting;
          ended = Some schedules.present;
        },
        [],
      )
  next_schedule schedules (Some ended) = Err faults.TooManySchedules

  -- what a line does, and its reply
  abbrev pub stream_does : Schedules S → StreamCommand → Result (Schedules S × List ℕ) Fault
  stream_does schedules (ToReceiver command_value) =
      if end_fits command_value then Ok (after_command schedules command_value)
      else Err faults.RangeTooLong
  stream_does schedules NextSchedule = next_schedule schedules schedules.ended

  -- what the words of a line do, if they are a line of the mode, and otherwise the fault
  abbrev pub stream_replies
      : Schedules S → Option StreamCommand → Result (Schedules S × List ℕ) Fault
  stream_replies schedules (Some command) = stream_does schedules command
  stream_replies schedules None = Err faults.BadCommand

  -- a line of the mode
  abbrev pub stream_rules : Rules (Schedules S)
  stream_rules schedules words = stream_replies schedules (stream_command words)

  -- the line that compares the schedule that ended with the present one; nothing if none ended
  abbrev pub comparison_with : Schedules S → Option S → List ℕ
  comparison_with schedules None = []
  comparison_with schedules (Some ended) =
      let outcome = schedule_ops.outcome schedules.setting in comparison (outcome ended) (outcome schedules.present)

  -- what is written after the last line: with one schedule nothing
  abbrev pub stream_closing : Schedules S → List ℕ
  stream_closing schedules = comparison_with schedules schedules.ended
