-- The words of a line, taken apart at its spaces.
use Rattle.std.proofs.Common.{◌≡◌, ℕ, ◌+◌, ◌-◌, List, [], ◌∷◌, length, take, drop, ◌==◌, Some, None, refl, ◌∙◌, ap}
use Rattle.memchr.specs.Find.{IsFirstByte, is_byte}
use Rattle.std.proofs.lemmas.List.{take_rest}
use Rattle.std.proofs.lemmas.List.Splits.{slice_split_at, slice_split_none}
use Rattle.net_bench_lib.specs.Text.{words_of}
use Rattle.net_bench_lib.proofs.LineParts.{found, not_found, parts-cons}

-- the first space ends the first word
pub words-first : (line : List ℕ) (at : ℕ) → IsFirstByte (is_byte 32) line (Some at) →
    words_of line ≡ take at line ∷ words_of (take (length line - (at + 1)) (drop (at + 1) line))
words-first line at h =
    let f = found 32 line at h in
    rw (take_rest line (at + 1)) (ap words_of f.1
    ∙ slice_split_at (λ b. b == 32) (take at line) 32 (drop (at + 1) line) f.2 refl)

-- a line with no space is a word
pub words-one : (line : List ℕ) → IsFirstByte (is_byte 32) line None → words_of line ≡ line ∷ []
words-one line h = slice_split_none (λ b. b == 32) line (not_found 32 line h)

-- four words and more
pub words-more : (line second third fourth a b c : List ℕ) → words_of line ≡ a ∷ words_of second →
    words_of second ≡ b ∷ words_of third → words_of third ≡ c ∷ words_of fourth →
    (a b c d : List ℕ) × (rest : List (List ℕ)) × (words_of line ≡ a ∷ b ∷ c ∷ d ∷ rest)
words-more line second third fourth a b c p q r =
    let (d, rest, is) = parts-cons (λ b. b == 32) fourth in
    (a, b, c, d, rest, p ∙ ap (λ t. a ∷ t) (q ∙ ap (λ t. b ∷ t) (r ∙ ap (λ t. c ∷ t) is)))
