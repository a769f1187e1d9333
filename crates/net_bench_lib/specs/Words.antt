-- The words of a line, as the code takes them apart.
use Rattle.std.specs.Prelude.{◌≡◌, ℕ, List, [], ◌∷◌}
use Rattle.net_bench_lib.specs.declared.words.Words.{Words}
use Rattle.net_bench_lib.specs.declared.words.Words.TheVariants.{One, Two, Three, More}

-- these are the words, or there are more than three
abbrev pub AreWords : Words → List (List ℕ) → Type 0
AreWords (One a) words = words ≡ a.now ∷ []
AreWords (Two a b) words = words ≡ a.now ∷ b.now ∷ []
AreWords (Three a b c) words = words ≡ a.now ∷ b.now ∷ c.now ∷ []
AreWords More words = (a b c d : List ℕ) × (rest : List (List ℕ)) × (words ≡ a ∷ b ∷ c ∷ d ∷ rest)
