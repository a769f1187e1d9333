-- A run in mode stream, from what receivers store to the states of schedules.
use Rattle.std.proofs.Common.{◌≡◌, ℕ, List, Option, None, IfSome, Result, ◌∙◌, ap, subst, IfErr, OnOk}
use Rattle.std.specs.Io.KnownBytes.{Appends}
use Rattle.net_receiver.specs.ReceiverState.{ReceiverState}
use Rattle.net_receiver.specs.Execution.{FreshRefines, EverySchedule}
use Rattle.net_bench_lib.specs.Text.{lines_of}
use Rattle.net_bench_lib.specs.Transcript.{Transcript, transcript, ErrorOfInput}
use Rattle.net_bench_lib.specs.Modes.{Stream, transcript_of}
use Rattle.net_bench_lib.specs.StreamMode.{Schedules, first_schedule, stream_rules, stream_closing}
use Rattle.net_bench_lib.specs.StreamReceivers.{receiver_schedule_ops}
use Rattle.net_bench_lib.specs.declared.error.BenchError.{BenchError}
use Rattle.net_bench_lib.proofs.StreamStates.{receiver_transcript}

-- a session that begins writes what its mode does
pub transcript_is : FreshRefines → EverySchedule →
    (first size capacity runs most : ℕ) (session : Schedules ReceiverState) →
    session ≡ first_schedule receiver_schedule_ops (record { first = first; capacity = size; most_runs = runs }) →
    size ≡ capacity → runs ≡ most →
    transcript (stream_rules receiver_schedule_ops) (stream_closing receiver_schedule_ops) 1 session ≡ transcript_of
    (Stream (record { first = first; capacity = capacity; most_runs = most }))
transcript_is fresh_refines every first size capacity runs most session begins same_size same_runs =
    ap (transcript (stream_rules receiver_schedule_ops) (stream_closing receiver_schedule_ops) 1)
    (begins ∙ (λ k. first_schedule receiver_schedule_ops
    (record { first = first; capacity = same_size k; most_runs = same_runs k })))
    ∙ receiver_transcript fresh_refines every _

-- an input without a fault, of which all was written
abbrev Ran : Transcript → Option (List ℕ) → Option (List ℕ) → Option (List ℕ) → Type 0
Ran all before old new = IfSome before (λ input. (all.fault (lines_of input) ≡ None)
    × Appends old new (all.text (lines_of input)))

abbrev Erred : Transcript → Option (List ℕ) → Option (List ℕ) → Option (List ℕ) → Option (List ℕ) →
    BenchError → Type 0
Erred all before left old new e = IfSome before (λ input. ErrorOfInput all input left old new e)

-- what a run says of one transcript it says of the other
module _ (all other : Transcript) (one : all ≡ other) (r : Result (Unit {0}) BenchError)
    (before old new : Option (List ℕ)) where
  pub run_ok : OnOk r (Ran all before old new) → OnOk r (Ran other before old new)
  run_ok h = subst (λ t. OnOk r (Ran t before old new)) one h

  pub run_err : (left : Option (List ℕ)) → IfErr r (Erred all before left old new) →
      IfErr r (Erred other before left old new)
  run_err left h = subst (λ t. IfErr r (Erred t before left old new)) one h
