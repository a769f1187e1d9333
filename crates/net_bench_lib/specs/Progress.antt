-- How the bytes of an input lead from line to line as they are read: for the contracts of the calls that `run`
-- makes.
--     HasNoFeed line      no line feed is in it
--     EndsLines bytes lines rest      the lines that end in these bytes, and the beginning of the next one
--     Advances rules lines n s n' s' text      where these lines lead
--     RunsLines rules bytes held n s n' s' old new      all of this, once the replies were added
use Rattle.std.specs.Prelude.{◌≡◌, ℕ, ◌-◌, ◌≤◌, List, ◌++◌, length, drop, false, ◌==◌, Option}
use Rattle.std.specs.List.{All}
use Rattle.std.specs.Io.KnownBytes.{Appends}
use Rattle.net_bench_lib.specs.Text.{parts_of}
use Rattle.net_bench_lib.specs.Transcript.{Rules, text_of, first_fault}
use Rattle.net_bench_lib.specs.declared.limits.TheConstants.{MAX_LINE}

-- no line feed is in it
abbrev pub HasNoFeed : List ℕ → Type 0
HasNoFeed line = All (λ b. (b == 10) ≡ false) line

-- these lines end in the bytes, and the rest begins the next one, whatever comes after it; it isn't too long
pub record EndsLines (bytes : List ℕ) (lines : List (List ℕ)) (rest : List ℕ) : Type 0 where
  pub parts : (more : List ℕ) → parts_of (bytes ++ more) ≡ lines ++ parts_of (rest ++ more)
  pub unended : HasNoFeed rest
  pub short : length rest ≤ MAX_LINE

-- these lines, the first of which has the number n, lead from one state to another and to the line of number n',
-- and to this text
pub record Advances {S : Type 0} (rules : Rules S) (lines : List (List ℕ)) (n : ℕ) (s : S) (n' : ℕ) (s' : S)
    (text : List ℕ) : Type 0 where
  pub texts : (closing : S → List ℕ) (more : List (List ℕ)) →
      text_of rules closing s (lines ++ more) ≡ text ++ text_of rules closing s' more
  pub faults : (more : List (List ℕ)) →
      first_fault rules n s (lines ++ more) ≡ first_fault rules n' s' more

-- all but the last bytes, `held` of them, were lines, and their replies were added to what was there
abbrev pub RunsLines : {S : Type 0} → Rules S → List ℕ → ℕ → ℕ → S → ℕ → S → Option (List ℕ) →
    Option (List ℕ) → Type 0
RunsLines rules bytes held n s n' s' old new =
    (held ≤ length bytes)
    × ((lines : List (List ℕ)) × (text : List ℕ)
    × EndsLines bytes lines (drop (length bytes - held) bytes)
    × Advances rules lines n s n' s' text × Appends old new text)
