-- The ranges that an assembler refuses, and its text.
--     makes_too_many_runs most_runs s o n, MakesTooManyRuns most_runs s o n      when a range is refused
--     display_text s, text_from at runs, hole_text n      the text of a set, of runs, and of a hole
use Rattle.std.specs.Prelude.{ℕ, ◌-◌, Bool, ◌&&◌, IsTrue, cond, nat_eq, nat_lt, List, [], ◌∷◌, ◌++◌, codes}
use Rattle.std.specs.Fmt.{decimal}
use Rattle.net_assembler.specs.Positions.{Positions, runs, with_range, maximal_runs}

-- whether the range (o, n) isn't empty, and s with it has more maximal runs than it may have
abbrev pub makes_too_many_runs : ℕ → Positions → ℕ → ℕ → Bool
makes_too_many_runs most_runs s o n = nat_lt 0 n && nat_lt most_runs (runs (with_range s o n))

-- that it is so
abbrev pub MakesTooManyRuns : ℕ → Positions → ℕ → ℕ → Type 0
MakesTooManyRuns most_runs s o n = IsTrue (makes_too_many_runs most_runs s o n)

-- a hole in parentheses and a space; nothing for a hole of 0
abbrev pub hole_text : ℕ → List ℕ
hole_text n = cond (nat_eq n 0) [] (codes "(" ++ decimal n ++ codes ") ")

-- the holes and data of runs, the first hole counted from where the run before ended
abbrev pub text_from : ℕ → List (ℕ × ℕ) → List ℕ
text_from at [] = []
text_from at (r ∷ rs) = hole_text (r.0 - at) ++ decimal (r.1 - r.0) ++ codes " " ++ text_from r.1 rs

-- `[ `, the runs, `]`
unfoldable pub display_text : Positions → List ℕ
display_text s = codes "[ " ++ text_from 0 (maximal_runs s) ++ codes "]"
