-- The output for the lines of an input, and their first fault: for any mode, by what one line does.
--     Rules S      what the words of a line do to a state
--     text_of rules closing state lines, replies_of rules state lines      what is written
--     first_fault rules n state lines, error_at n fault      the first fault, as an error
--     Transcript, transcript rules closing n state      all three, for any lines
--     ErrorOfLines all lines old new e, ErrorOfInput all input left old new e      what an error says
use Rattle.std.specs.Prelude.{◌≡◌, ℕ, List, [], ◌++◌, ◌∷◌, ◌≤◌, length, take, nat_lt, if◌then◌else◌}
use Rattle.std.specs.Prelude.{Option, Some, None, Result, Ok, Err}
use Rattle.std.specs.Io.KnownBytes.{Appends, Consumes}
use Rattle.net_bench_lib.specs.Writer.{AppendsPrefix}
use Rattle.net_bench_lib.specs.Text.{lines_of, ended_lines, unended_line, words_of, next_number}
use Rattle.net_bench_lib.specs.declared.limits.TheConstants.{MAX_LINE}
use Rattle.net_bench_lib.specs.declared.fault.Fault.{Fault}
use Rattle.net_bench_lib.specs.declared.fault.Fault.TheVariants as faults
use Rattle.net_bench_lib.specs.declared.error.BenchError.{BenchError}
use Rattle.net_bench_lib.specs.declared.error.BenchError.TheVariants.{BadCommand, RangeTooLong, LineTooLong}
use Rattle.net_bench_lib.specs.declared.error.BenchError.TheVariants.{TooManySchedules, OutOfMemory, ReadFailed}
use Rattle.net_bench_lib.specs.declared.error.BenchError.TheVariants.{WriteFailed}

-- the rules of a mode: from a state and a line's words, the next state and the reply, or the line's
-- fault
abbrev pub Rules : Type 0 → Type 0
Rules S = S → List (List ℕ) → Result (S × List ℕ) Fault

-- what a line does: a line of more than 4,096 bytes is too long, whatever is in it
abbrev pub line_step : {S : Type 0} → Rules S → S → List ℕ → Result (S × List ℕ) Fault
line_step rules state line =
    if nat_lt MAX_LINE (length line) then Err faults.LineTooLong else rules state (words_of line)

-- a value for what a line did: `go` of its state and reply, or `stop` of its fault
abbrev pub by_step : {S X : Type 0} → (S → List ℕ → X) → (Fault → X) → Result (S × List ℕ) Fault → X
by_step go stop (Ok next) = go next.0 next.1
by_step go stop (Err fault) = stop fault

-- the text: the replies of the lines before the first with a fault, and `closing` of the last state
-- if none has one
abbrev pub text_of : {S : Type 0} → Rules S → (S → List ℕ) → S → List (List ℕ) → List ℕ
text_of rules closing state [] = closing state
text_of rules closing state (line ∷ lines) =
    by_step (λ next reply. reply ++ text_of rules closing next lines) (λ _. [])
    (line_step rules state line)

-- only the replies
abbrev pub replies_of : {S : Type 0} → Rules S → S → List (List ℕ) → List ℕ
replies_of rules state lines = text_of rules (λ _. []) state lines

-- a fault of line n, as an error
abbrev pub error_at : ℕ → Fault → BenchError
error_at n faults.BadCommand = BadCommand n
error_at n faults.RangeTooLong = RangeTooLong n
error_at n faults.LineTooLong = LineTooLong n
error_at n faults.TooManySchedules = TooManySchedules n

-- the first fault of the lines, the first of which has the number n
abbrev pub first_fault : {S : Type 0} → Rules S → ℕ → S → List (List ℕ) → Option BenchError
first_fault rules n state [] = None
first_fault rules n state (line ∷ lines) =
    by_step (λ next reply. first_fault rules (next_number n) next lines)
    (λ fault. Some (error_at n fault)) (line_step rules state line)

-- the transcript of the lines of an input
pub record Transcript : Type 0 where
  -- all that is written
  pub text : List (List ℕ) → List ℕ
  -- the replies, without what is written after the last line
  pub replies : List (List ℕ) → List ℕ
  -- the first fault, with the number of its line
  pub fault : List (List ℕ) → Option BenchError

-- the transcript of lines by these rules, from a state on, the first line having the number n
abbrev pub transcript : {S : Type 0} → Rules S → (S → List ℕ) → ℕ → S → Transcript
transcript rules closing n state = record {
  text = text_of rules closing state;
  replies = replies_of rules state;
  fault = first_fault rules n state;
}

-- the first fault of the lines is this one, and the replies of the lines before it were written
abbrev pub IsFirstFault : Transcript → List (List ℕ) → Option (List ℕ) → Option (List ℕ) →
    BenchError → Type 0
IsFirstFault all lines old new e = (all.fault lines ≡ Some e) × Appends old new (all.text lines)

-- what an error says of the lines, and of what a writer has before and after
abbrev pub ErrorOfLines : Transcript → List (List ℕ) → Option (List ℕ) → Option (List ℕ) →
    BenchError → Type 0
ErrorOfLines all lines old new (BadCommand n) = IsFirstFault all lines old new (BadCommand n)
ErrorOfLines all lines old new (RangeTooLong n) = IsFirstFault all lines old new (RangeTooLong n)
ErrorOfLines all lines old new (LineTooLong n) = IsFirstFault all lines old new (LineTooLong n)
ErrorOfLines all lines old new (TooManySchedules n) =
    IsFirstFault all lines old new (TooManySchedules n)
-- whole replies of a prefix of the lines were written
ErrorOfLines all lines old new OutOfMemory = (k : ℕ) × Appends old new (all.replies (take k lines))
ErrorOfLines all lines old new WriteFailed = AppendsPrefix old new (all.text lines)
-- a failed read is no error of lines: ErrorOfInput says what it means
ErrorOfLines all lines old new ReadFailed = ⊥

-- what the error of `run` says of the input, of what is left of that, and of what the writer has
-- before and after
abbrev pub ErrorOfInput : Transcript → List ℕ → Option (List ℕ) → Option (List ℕ) →
    Option (List ℕ) → BenchError → Type 0
-- the replies of all lines whose line feed is in what the reads gave were written, none of these lines has a fault, and
-- the bytes of the next line that were read are not too many
ErrorOfInput all input left old new ReadFailed =
    (given : List ℕ) × Consumes (Some input) left given × (all.fault (ended_lines given) ≡ None)
    × Appends old new (all.replies (ended_lines given)) × (length (unended_line given) ≤ MAX_LINE)
-- any other error is one of the input's lines
ErrorOfInput all input left old new e = ErrorOfLines all (lines_of input) old new e
