-- Mode asm: a set of positions in at most `most_runs` maximal runs.
--     asm_line words      what a line says, if its words are a line of the mode
--     asm_does most_runs set line      what a line does to the set, and its reply
--     asm_rules most_runs      the rules of the mode
use Rattle.std.specs.Prelude.{ℕ, ◌+◌, ◌^◌, ◌&&◌, nat_lt, List, [], ◌∷◌, ◌++◌, codes, bytes_eq, decimal, if◌then◌else◌}
use Rattle.std.specs.Prelude.{Option, Some, None, Result, Ok, Err, option_map}
use Rattle.net_assembler.specs.Positions.{Positions, with_range, front, shift_down}
use Rattle.net_assembler.specs.Assembler.{display_text, makes_too_many_runs}
use Rattle.net_ring.specs.Width.{shortfall}
use Rattle.net_bench_lib.specs.Numeral.{number_of}
use Rattle.net_bench_lib.specs.Transcript.{Rules}
use Rattle.net_bench_lib.specs.declared.asm.AsmLine.{AsmLine}
use Rattle.net_bench_lib.specs.declared.asm.AsmLine.TheVariants.{Add, AddThenRemoveFront, RemoveFront, Print}
use Rattle.net_bench_lib.specs.declared.fault.Fault.{Fault}
use Rattle.net_bench_lib.specs.declared.fault.Fault.TheVariants as faults

-- the offset and the size of a range, if both of its words are numbers
abbrev pub range_of : Option ℕ → Option ℕ → Option (ℕ × ℕ)
range_of (Some offset) (Some size) = Some (offset, size)
range_of _ _ = None

-- `f`, `p`, `a NUM NUM` and `t NUM NUM`
abbrev pub asm_line : List (List ℕ) → Option AsmLine
asm_line (verb ∷ []) =
    if bytes_eq verb (codes "f") then Some RemoveFront
    else if bytes_eq verb (codes "p") then Some Print
    else None
asm_line (verb ∷ offset ∷ size ∷ []) =
    if bytes_eq verb (codes "a")
    then option_map (λ range. Add range.0 range.1) (range_of (number_of offset) (number_of size))
    else if bytes_eq verb (codes "t")
    then option_map (λ range. AddThenRemoveFront range.0 range.1)
    (range_of (number_of offset) (number_of size))
    else None
asm_line _ = None

-- the reply of a refusal
abbrev pub refused_text : List ℕ
refused_text = codes "refused too many holes\n"

-- the set without its front, counted from there, and the reply that says how long the front was
abbrev pub front_removal : Positions → Positions × List ℕ
front_removal set =
    (shift_down set (front set), codes "front " ++ decimal (front set) ++ codes "\n")

-- the set with a range, or the set unchanged if that has too many runs
abbrev pub addition : ℕ → Positions → ℕ → ℕ → Positions × List ℕ
addition most_runs set offset size =
    if makes_too_many_runs most_runs set offset size then (set, refused_text)
    else (with_range set offset size, codes "ok\n")

-- the same, and the front is removed then; a range at 0 is never refused
abbrev pub addition_then_removal : ℕ → Positions → ℕ → ℕ → Positions × List ℕ
addition_then_removal most_runs set offset size =
    if nat_lt 0 offset && makes_too_many_runs most_runs set offset size then (set, refused_text)
    else front_removal (with_range set offset size)

-- what a line with a range does: `next`, or the fault if the range's end is no `usize`
abbrev pub within_range : ℕ → ℕ → Positions × List ℕ → Result (Positions × List ℕ) Fault
within_range offset size next =
    if nat_lt (offset + size + shortfall) (2 ^ 64) then Ok next else Err faults.RangeTooLong

-- what a line does to the set, and its reply
abbrev pub asm_does : ℕ → Positions → AsmLine → Result (Positions × List ℕ) Fault
asm_does most_runs set (Add offset size) =
    within_range offset size (addition most_runs set offset size)
asm_does most_runs set (AddThenRemoveFront offset size) =
    within_range offset size (addition_then_removal most_runs set offset size)
asm_does most_runs set RemoveFront = Ok (front_removal set)
asm_does most_runs set Print = Ok (set, display_text set ++ codes "\n")

-- a line of the mode, with at most `most_runs` runs
abbrev pub asm_rules : ℕ → Rules Positions
asm_rules most_runs set words = asm_reply most_runs set (asm_line words)
  where
    asm_reply : ℕ → Positions → Option AsmLine → Result (Positions × List ℕ) Fault
    asm_reply most_runs set (Some line) = asm_does most_runs set line
    asm_reply most_runs set None = Err faults.BadCommand
