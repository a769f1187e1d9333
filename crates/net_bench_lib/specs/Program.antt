-- The lines on standard error, and what an error says of them.
--     usage_line      the line for words that name no mode
--     AppendsSome old new      bytes were appended, or none
--     FailsOnInput all before left old new said says      what an error says of the input, of what
--         the writer has, and of standard error, before and after
use Rattle.std.specs.Prelude.{ℕ, List, Option, IfSome, codes}
use Rattle.std.specs.Io.KnownBytes.{Appends}
use Rattle.net_bench_lib.specs.Transcript.{Transcript, ErrorOfInput}
use Rattle.net_bench_lib.specs.declared.error.BenchError.{BenchError}

abbrev pub usage_line : List ℕ
usage_line = codes "usage: net_bench ring CAP | asm N | stream CAP N [FIRST]\n"

-- what was there stays, with some bytes after it. Which, no contract says of a text that `thiserror` writes
abbrev pub AppendsSome : Option (List ℕ) → Option (List ℕ) → Type 0
AppendsSome old new = (written : List ℕ) × Appends old new written

-- if the input is known, `run` returned an error that says all this, and standard error took some bytes
abbrev pub FailsOnInput : Transcript → Option (List ℕ) → Option (List ℕ) → Option (List ℕ) →
    Option (List ℕ) → Option (List ℕ) → Option (List ℕ) → Type 0
FailsOnInput all before left old new said says = IfSome before (λ input.
    (e : BenchError) × ErrorOfInput all input left old new e × AppendsSome said says)
