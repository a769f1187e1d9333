-- The parts of a text between bytes of one kind, and its lines.
use Rattle.std.proofs.Common.{◌≡◌, ℕ, ◌+◌, ◌<◌, suc, List, [], ◌∷◌, ◌++◌, length, take, drop, Bool, true, false, ◌==◌}
use Rattle.std.proofs.Common.{Some, None, refl, sym, ◌∙◌, ap, append_assoc, arith, cond, drop-cons, add-one, All}
use Rattle.std.proofs.lemmas.Bool.{false_from_ne_true, eqb-true}
use Rattle.std.specs.List.{onto_first, slice_split}
use Rattle.memchr.specs.Find.{IsFirstByte, is_byte}
use Rattle.std.proofs.lemmas.List.Splits.{slice_split_at, slice_split_none, slice_split-cons_no}
use Rattle.std.proofs.lemmas.List.{take-append-drop, get_or-take, length-take-le}
use Rattle.std.proofs.lemmas.List.Elements.{All-head, All-tail, All-append, All-from_get_or}
use Rattle.net_bench_lib.specs.Text.{parts_of, lines_of, ended_lines, unended_line, without_last, without_empty_last}
use Rattle.net_bench_lib.specs.Text.{last_part}
use Rattle.net_bench_lib.specs.Progress.{HasNoFeed}

-- the first byte c, and what is before it
pub found : (c : ℕ) (bytes : List ℕ) (at : ℕ) → IsFirstByte (is_byte c) bytes (Some at) →
    (at < length bytes) × (bytes ≡ take at bytes ++ (c ∷ drop (at + 1) bytes))
    × All (λ b. (b == c) ≡ false) (take at bytes)
found c bytes at (first, is) = (
  first.high,
  sym (take-append-drop at bytes) ∙ ap (λ t. take at bytes ++ t)
      (drop-cons bytes at 0 first.high ∙ ap (λ t. t ∷ drop (suc at) bytes) (eqb-true _ c is) ∙ rw add-one refl),
  All-from_get_or (λ b. (b == c) ≡ false) (take at bytes) 0
      (λ i lt. let under : i < at = omega (arith, length-take-le at bytes (omega (arith, first.high))) in
      rw (get_or-take at bytes i 0 under)
      (false_from_ne_true _ (first.before i (omega arith) under))),
)

-- where no byte c is found there is none
pub not_found : (c : ℕ) (bytes : List ℕ) → IsFirstByte (is_byte c) bytes None → All (λ b. (b == c) ≡ false) bytes
not_found c bytes none = All-from_get_or (λ b. (b == c) ≡ false) bytes 0
    (λ k lt. false_from_ne_true _ (none k (omega arith) lt))

-- there is always a first part
pub parts-cons : (p : ℕ → Bool) (text : List ℕ) → (part : List ℕ) × (parts : List (List ℕ))
    × (slice_split p text ≡ part ∷ parts)
parts-cons p [] = ([], [], refl)
parts-cons p (b ∷ text) =
    elim (p b) as (λ v. (part : List ℕ) × (parts : List (List ℕ))
    × (cond v ([] ∷ slice_split p text) (onto_first b (slice_split p text)) ≡ part ∷ parts)) [
      | true ↦ ([], slice_split p text, refl)
      | false ↦ let (part, parts, is) = parts-cons p text in (b ∷ part, parts, ap (onto_first b) is)
    ]

-- a function of parts that looks no further than the last two
module _ (f : List (List ℕ) → List (List ℕ)) (next : (x y : List ℕ) (ys : List (List ℕ)) →
    f (x ∷ y ∷ ys) ≡ x ∷ f (y ∷ ys)) where
  before_rest : (xs : List (List ℕ)) (y : List ℕ) (ys : List (List ℕ)) → f (xs ++ (y ∷ ys)) ≡ xs ++ f (y ∷ ys)
  before_rest [] y ys = refl
  before_rest (x ∷ []) y ys = next x y ys
  before_rest (x ∷ z ∷ xs) y ys = next x z (xs ++ (y ∷ ys)) ∙ ap (λ t. x ∷ t) (before_rest (z ∷ xs) y ys)

  from_parts : (text : List ℕ) (lines : List (List ℕ)) (rest : List ℕ) → parts_of text ≡ lines ++ parts_of rest →
      f (parts_of text) ≡ lines ++ f (parts_of rest)
  from_parts text lines rest e =
      let (part, parts, is) = parts-cons (λ b. b == 10) rest in
      ap f (e ∙ ap (λ t. lines ++ t) is) ∙ before_rest lines part parts ∙ ap (λ t. lines ++ f t) (sym is)

-- lines before a text are its first lines
pub lines-from_parts : (text : List ℕ) (lines : List (List ℕ)) (rest : List ℕ) →
    parts_of text ≡ lines ++ parts_of rest →
    lines_of text ≡ lines ++ lines_of rest
lines-from_parts = from_parts without_empty_last (λ x y ys. refl)

pub ended-from_parts : (text : List ℕ) (lines : List (List ℕ)) (rest : List ℕ) →
    parts_of text ≡ lines ++ parts_of rest →
    ended_lines text ≡ lines ++ ended_lines rest
ended-from_parts = from_parts without_last (λ x y ys. refl)

-- a line in two pieces, its line feed, and the rest
pub parts-feed : (line bytes rest : List ℕ) → HasNoFeed line → HasNoFeed bytes →
    parts_of (line ++ (bytes ++ (10 ∷ rest))) ≡ (line ++ bytes) ∷ parts_of rest
parts-feed line bytes rest none none' =
    ap parts_of (sym (append_assoc line bytes (10 ∷ rest)))
    ∙ slice_split_at (λ b. b == 10) (line ++ bytes) 10 rest
    (All-append (λ b. (b == 10) ≡ false) line bytes none none') refl

-- a text that begins with bytes other than a line feed
pub parts-prefix : (line rest part : List ℕ) (parts : List (List ℕ)) → HasNoFeed line →
    parts_of rest ≡ part ∷ parts → parts_of (line ++ rest) ≡ (line ++ part) ∷ parts
parts-prefix [] rest part parts none e = e
parts-prefix (b ∷ line) rest part parts none e =
    slice_split-cons_no (λ b. b == 10) b (line ++ rest) (All-head (λ b. (b == 10) ≡ false) b line none)
    ∙ ap (onto_first b) (parts-prefix line rest part parts (All-tail (λ b. (b == 10) ≡ false) b line none) e)

-- a part that is not empty is a line
pub lines-nonempty : (text part : List ℕ) (parts : List (List ℕ)) (b : ℕ) →
    parts_of text ≡ (b ∷ part) ∷ parts → (lines : List (List ℕ)) × (lines_of text ≡ (b ∷ part) ∷ lines)
lines-nonempty text part [] b e = ([], ap without_empty_last e)
lines-nonempty text part (next ∷ parts) b e = (without_empty_last (next ∷ parts), ap without_empty_last e)

-- a line that no line feed ends
pub lines-one : (line : List ℕ) → 0 < length line → HasNoFeed line → lines_of line ≡ line ∷ []
lines-one [] some none = absurd (omega arith)
lines-one (b ∷ line) some none = ap without_empty_last (slice_split_none (λ b. b == 10) (b ∷ line) none)

-- a text with no line feed ends no line
pub ended-none : (line : List ℕ) → HasNoFeed line → ended_lines line ≡ []
ended-none line none = ap without_last (slice_split_none (λ b. b == 10) line none)

last_part-append : (xs : List (List ℕ)) (y : List ℕ) → last_part (xs ++ (y ∷ [])) ≡ y
last_part-append [] y = refl
last_part-append (x ∷ []) y = refl
last_part-append (x ∷ z ∷ xs) y = last_part-append (z ∷ xs) y

-- what is after the last line feed
pub unended-from_parts : (text : List ℕ) (lines : List (List ℕ)) (line : List ℕ) → HasNoFeed line →
    parts_of text ≡ lines ++ parts_of line → unended_line text ≡ line
unended-from_parts text lines line none e =
    ap last_part (e ∙ ap (λ t. lines ++ t) (slice_split_none (λ b. b == 10) line none)) ∙ last_part-append lines line
