-- The modes: what their words are, and what each makes of an input.
--     Mode, mode_of words      a mode with its numbers, and the one that words name
--     transcript_of mode      the transcript of lines in a mode
--     output mode input, fault mode input      the output for an input, and its first fault
use Rattle.std.specs.Prelude.{ℕ, List, [], ◌∷◌, ◌==◌, ◌||◌, codes, bytes_eq, nat_le, if◌then◌else◌}
use Rattle.std.specs.Prelude.{Option, Some, None, option_map, option_and_then}
use Rattle.net_bench_lib.specs.Numeral.{number_of}
use Rattle.net_bench_lib.specs.Text.{lines_of}
use Rattle.net_bench_lib.specs.Transcript.{Transcript, transcript}
use Rattle.net_assembler.specs.Positions.{nothing}
use Rattle.net_bench_lib.specs.RingMode.{ring_rules, fresh_ring_mode}
use Rattle.net_receiver.specs.Schedule.{Setting}
use Rattle.net_bench_lib.specs.AsmMode.{asm_rules}
use Rattle.net_bench_lib.specs.StreamMode.{kept_schedule_ops, first_schedule, stream_rules, stream_closing}
use Rattle.net_bench_lib.specs.declared.error.BenchError.{BenchError}
use Rattle.net_bench_lib.specs.declared.limits.TheConstants.{MAX_CAPACITY}

-- a mode with its numbers: a capacity; the most runs; or first position, capacity and most runs
pub data Mode : Type 0 where
  Ring : ℕ → Mode
  Asm : ℕ → Mode
  Stream : Setting → Mode

-- a number up to 65,536
abbrev pub at_most_64k : ℕ → Option ℕ
at_most_64k number = if nat_le number MAX_CAPACITY then Some number else None

-- the most runs: 4 or 32
abbrev pub four_or_32 : ℕ → Option ℕ
four_or_32 number = if (number == 4) || (number == 32) then Some number else None

-- the numbers of mode stream, if all are there
abbrev pub setting_of : Option ℕ → Option ℕ → Option ℕ → Option Setting
setting_of (Some capacity) (Some most_runs) (Some first) =
    Some (record { first = first; capacity = capacity; most_runs = most_runs })
setting_of _ _ _ = None

-- mode stream with the numbers that these words write, and this first position
abbrev pub stream_of : List ℕ → List ℕ → List ℕ → Option ℕ → Option Mode
stream_of name capacity most_runs first =
    if bytes_eq name (codes "stream")
    then option_map Stream
    (setting_of (option_and_then at_most_64k (number_of capacity))
    (option_and_then four_or_32 (number_of most_runs)) first)
    else None

-- the mode that these words name: `ring CAP`, `asm N`, `stream CAP N` or `stream CAP N FIRST`
abbrev pub mode_of : List (List ℕ) → Option Mode
mode_of (name ∷ number ∷ []) =
    if bytes_eq name (codes "ring")
    then option_map Ring (option_and_then at_most_64k (number_of number))
    else if bytes_eq name (codes "asm")
    then option_map Asm (option_and_then four_or_32 (number_of number))
    else None
mode_of (name ∷ capacity ∷ most_runs ∷ []) = stream_of name capacity most_runs (Some 0)
mode_of (name ∷ capacity ∷ most_runs ∷ first ∷ []) =
    stream_of name capacity most_runs (number_of first)
mode_of _ = None

-- the transcript of lines in a mode
abbrev pub transcript_of : Mode → Transcript
transcript_of (Ring capacity) = transcript ring_rules (λ _. []) 1 (fresh_ring_mode capacity)
transcript_of (Asm most_runs) = transcript (asm_rules most_runs) (λ _. []) 1 nothing
transcript_of (Stream setting) =
    transcript (stream_rules kept_schedule_ops) (stream_closing kept_schedule_ops) 1
    (first_schedule kept_schedule_ops setting)

-- the output for an input
abbrev pub output : Mode → List ℕ → List ℕ
output mode input = (transcript_of mode).text (lines_of input)

-- the first fault of an input
abbrev pub fault : Mode → List ℕ → Option BenchError
fault mode input = (transcript_of mode).fault (lines_of input)
