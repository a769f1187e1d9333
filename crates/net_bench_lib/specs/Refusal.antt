-- Why a line has no reply, and the error that `run` returns for it.
--     IsRefusalOf refusal step      a line that would do this has no reply for this reason
--     refusal_at n refusal      the error, where it is line n
use Rattle.std.specs.Prelude.{◌≡◌, ℕ, Result, Err}
use Rattle.net_bench_lib.specs.Transcript.{error_at}
use Rattle.net_bench_lib.specs.declared.error.BenchError.{BenchError}
use Rattle.net_bench_lib.specs.declared.error.BenchError.TheVariants as errors
use Rattle.net_bench_lib.specs.declared.fault.Fault.{Fault}
use Rattle.net_bench_lib.specs.declared.fault.Refusal.{Refusal}
use Rattle.net_bench_lib.specs.declared.fault.Refusal.TheVariants.{Fault as FaultOf, OutOfMemory}

-- the line has this fault; a request for memory may be refused for any line
abbrev pub IsRefusalOf : {T : Type 0} → Refusal → Result T Fault → Type 0
IsRefusalOf (FaultOf fault) step = step ≡ Err fault
IsRefusalOf OutOfMemory step = Unit {0}

abbrev pub refusal_at : ℕ → Refusal → BenchError
refusal_at n (FaultOf fault) = error_at n fault
refusal_at n OutOfMemory = errors.OutOfMemory
