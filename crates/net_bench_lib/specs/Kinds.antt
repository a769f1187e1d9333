-- The code's kinds of modes, as modes with their numbers.
use Rattle.std.specs.Prelude.{ℕ}
use Rattle.net_bench_lib.specs.Modes.{Mode, Ring, Asm, Stream}
use Rattle.net_bench_lib.specs.declared.mode.ModeKind.{ModeKind}
use Rattle.net_bench_lib.specs.declared.mode.ModeKind.TheVariants as kinds
use Rattle.net_bench_lib.specs.declared.mode.MostRuns.{MostRuns}
use Rattle.net_bench_lib.specs.declared.mode.MostRuns.TheVariants as counts

-- how many runs these are
abbrev pub most_runs_value : MostRuns → ℕ
most_runs_value counts.Four = 4
most_runs_value counts.ThirtyTwo = 32

-- the mode that a kind is
abbrev pub mode_value : ModeKind → Mode
mode_value (kinds.Ring capacity) = Ring capacity
mode_value (kinds.Asm most_runs) = Asm (most_runs_value most_runs)
mode_value (kinds.Stream first capacity most_runs) =
    Stream (record { first = first; capacity = capacity; most_runs = most_runs_value most_runs })
