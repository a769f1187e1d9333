-- What membership, runs and shifts of a set of positions come to, whatever holds the set.
use Rattle.std.proofs.Common.{◌||◌, ◌≡◌, ℕ, zero, suc, ◌+◌, ◌-◌, ◌<◌, ◌≤◌, Bool, true, false, cond, not, ◌&&◌, ◌==◌}
use Rattle.std.proofs.Common.{List, [], ◌∷◌, ◌++◌, map, filter, length, nat_le, nat_lt, refl, sym, ap, subst, ◌∙◌, ◌⊎◌}
use Rattle.std.proofs.Common.{inl, inr, arith, Decides, le-leb, rules}
use Rattle.std.proofs.lemmas.Bool.{false≢true, eqb-true, eq-eqb, cases_lt, cases_eq, cases_Bool, lt-leb, and_parts}
use Rattle.std.proofs.lemmas.Bool.{and_right, or_cases, or_left, or_right, cond_both, false_from_ne_true}
use Rattle.std.proofs.lemmas.List.{length-map}
use Rattle.std.specs.List.{range_with_len, list_any}
use Rattle.std.specs.Prelude.{T, is_some, Option, Some, None}
use Rattle.std.specs.Ordering.{is_lt, nat_cmp, eq_by_cmp}
use Rattle.std.specs.Cmp.{nat_cmp_total, unsigned_tied}
use Rattle.std.specs.FinMap.{entries, contains_key-keys, get-from_entries, get-empty, same_map}
use Rattle.std.specs.FinMap.{nat_cmp-IsAntisymmetric, entries_sorted}
use Rattle.std.specs.FinMap.Entries.{is_sorted, below_all, is_some-find}
use Rattle.std.proofs.lemmas.Bool.Decides.{nat_tests, Decides-and, Decides-ltb}
use Rattle.net_assembler.specs.Assembler.{MakesTooManyRuns, makes_too_many_runs}
use Rattle.net_assembler.specs.Positions.{front, Positions, contains, positions, set_of_list, nothing, with_range}
use Rattle.net_assembler.specs.Positions.{begins_run, run_starts, runs, maximal_runs, runs_shifted_up, shift_down}
use Rattle.net_assembler.specs.Positions.{shift_up, bound_of, missing_within, first_missing, are_same}

-- membership in a list
abbrev pub has : List ℕ → ℕ → Bool
has [] q = false
has (k ∷ ks) q = (q == k) || has ks q

has-list_any : (ks : List ℕ) (q : ℕ) → list_any (eq_by_cmp nat_cmp q) ks ≡ has ks q
has-list_any [] q = refl
has-list_any (k ∷ ks) q = λ i. unsigned_tied q k i || has-list_any ks q i

pub contains-positions : (s : Positions) (q : ℕ) → contains s q ≡ has (positions s) q
contains-positions s q = contains_key-keys s q ∙ has-list_any (positions s) q

unit_keys : (ks : List ℕ) → map (λ (e : ℕ × Unit {0}). e.0) (map (λ (k : ℕ). (k, tt)) ks) ≡ ks
unit_keys [] = refl
unit_keys (k ∷ ks) = ap (λ xs. k ∷ xs) (unit_keys ks)

pub contains-set_of_list : (ks : List ℕ) (q : ℕ) → contains (set_of_list ks) q ≡ has ks q
unfolding set_of_list
contains-set_of_list ks q =
    let es : List (ℕ × Unit {0}) = map (λ k. (k, tt)) ks in
    ap is_some (get-from_entries nat_cmp_total es q) ∙ is_some-find nat_cmp q es
    ∙ ap (list_any (eq_by_cmp nat_cmp q)) (unit_keys ks) ∙ has-list_any ks q

pub contains-nothing : (q : ℕ) → contains nothing q ≡ false
contains-nothing q = ap is_some (get-empty nat_cmp q)

pub has-append : (ks ls : List ℕ) (q : ℕ) → has (ks ++ ls) q ≡ (has ks q || has ls q)
has-append [] ls q = refl
has-append (k ∷ ks) ls q = let ih = has-append ks ls q in grind (arith, nat_tests)

pub has-range_with_len : (o n q : ℕ) → has (range_with_len o n) q ≡ (nat_le o q && nat_lt q (o + n))
has-range_with_len o zero q = grind (arith, nat_tests)
has-range_with_len o (suc n) q = let ih = has-range_with_len (o + 1) n q in grind (arith, nat_tests)

pub contains-with_range : (s : Positions) (o n q : ℕ) →
    contains (with_range s o n) q ≡ (contains s q || (nat_le o q && nat_lt q (o + n)))
unfolding with_range
contains-with_range s o n q = search (rules, contains-set_of_list, has-append, contains-positions, has-range_with_len)

abbrev marked : Bool → Option (Unit {0})
marked b = cond b (Some tt) None

marks : (x : Option (Unit {0})) → x ≡ marked (is_some x)
marks None = refl
marks (Some u) = refl

-- two sets with the same members are equal
pub same_positions : (s t : Positions) → ((q : ℕ) → contains s q ≡ contains t q) → s ≡ t
same_positions s t is =
    same_map nat_cmp_total nat_cmp-IsAntisymmetric s t (λ q. marks _ ∙ ap marked (is q) ∙ sym (marks _))

-- a list that strictly rises, from low on
abbrev pub Rises : ℕ → List ℕ → Type 0
Rises low [] = Unit {0}
Rises low (k ∷ ks) = (low ≤ k) × Rises (k + 1) ks

abbrev BeginsAt : ℕ → List (ℕ × Unit {0}) → Type 0
BeginsAt low [] = Unit {0}
BeginsAt low (e ∷ es) = low ≤ e.0

first_T : (a b : Bool) → T (a && b) → a ≡ true
first_T true b p = refl
first_T false b p = absurd p

second_T : (a b : Bool) → T (a && b) → T b
second_T true b p = p
second_T false b p = absurd p

pub either : {P Q R : Type 0} → P ⊎ Q → (P → R) → (Q → R) → R
either (inl p) f g = f p
either (inr q) f g = g q

is_lt-nat_cmp : (x y : ℕ) → is_lt (nat_cmp x y) ≡ true → x < y
is_lt-nat_cmp x y h = grind (arith, nat_tests)

begins_above : (k : ℕ) (es : List (ℕ × Unit {0})) → below_all nat_cmp k es ≡ true → BeginsAt (k + 1) es
begins_above k [] h = tt
begins_above k (e ∷ es) h = let p = is_lt-nat_cmp k e.0 (and_parts _ _ h).0 in omega arith

sorted_rises : (low : ℕ) (es : List (ℕ × Unit {0})) → T (is_sorted nat_cmp es) → BeginsAt low es →
    Rises low (map (λ e. e.0) es)
sorted_rises low [] h b = tt
sorted_rises low (e ∷ es) h b = (b, sorted_rises (e.0 + 1) es (second_T _ _ h) (begins_above e.0 es (first_T _ _ h)))

begins_at_zero : (es : List (ℕ × Unit {0})) → BeginsAt 0 es
begins_at_zero [] = tt
begins_at_zero (e ∷ es) = omega arith

pub positions_rise : (s : Positions) → Rises 0 (positions s)
positions_rise s = sorted_rises 0 (entries s) (entries_sorted s) (begins_at_zero (entries s))

pub rises-has : (low : ℕ) (ks : List ℕ) (q : ℕ) → Rises low ks → has ks q ≡ true → low ≤ q
rises-has low [] q h m = absurd (false≢true m)
rises-has low (k ∷ ks) q h m = either (or_cases (q == k) (has ks q) m)
    (λ e. let same = eqb-true q k e in omega (arith, h.0))
    (λ e. let l = rises-has (k + 1) ks q h.1 e in omega (arith, h.0))

not_has : (low : ℕ) (ks : List ℕ) (q : ℕ) → Rises low ks → q < low → has ks q ≡ false
not_has low ks q h l = false_from_ne_true (has ks q) (λ m. let p = rises-has low ks q h m in omega arith)

pub has_head : (x : ℕ) (xs : List ℕ) → has (x ∷ xs) x ≡ true
has_head x xs = ap (λ b. b || has xs x) (eq-eqb x x refl)

has_tail : (x : ℕ) (xs : List ℕ) (q : ℕ) → x < q → has (x ∷ xs) q ≡ has xs q
has_tail x xs q l = grind (arith, nat_tests)

tails : (x : ℕ) (xs ys : List ℕ) → Rises (x + 1) xs → Rises (x + 1) ys → ((q : ℕ) → has (x ∷ xs) q ≡ has (x ∷ ys) q) →
    (q : ℕ) → has xs q ≡ has ys q
tails x xs ys h g is q = search (rules, either, cases_lt, has_tail, not_has)

-- two rising lists with the same members are equal
pub rising_unique : (low : ℕ) (xs ys : List ℕ) → Rises low xs → Rises low ys → ((q : ℕ) → has xs q ≡ has ys q) → xs ≡ ys
rising_unique low [] [] h g is = refl
rising_unique low [] (y ∷ ys) h g is = absurd (false≢true (is y ∙ has_head y ys))
rising_unique low (x ∷ xs) [] h g is = absurd (false≢true (sym (is x) ∙ has_head x xs))
rising_unique low (x ∷ xs) (y ∷ ys) h g is =
    let below : y ≤ x = rises-has y (y ∷ ys) x (omega arith, g.1) (sym (is x) ∙ has_head x xs) in
    let above : x ≤ y = rises-has x (x ∷ xs) y (omega arith, h.1) (is y ∙ has_head y ys) in
    let same : y ≡ x = omega arith in
    let g' : Rises (x + 1) ys = subst (λ (k : ℕ). Rises (k + 1) ys) same g.1 in
    let is' : (q : ℕ) → has (x ∷ xs) q ≡ has (x ∷ ys) q = λ q. is q ∙ ap (λ k. (q == k) || has ys q) same in
    let rest = rising_unique (x + 1) xs ys h.1 g' (tails x xs ys h.1 g' is') in
    λ i. sym same i ∷ rest i

-- a rising list is the positions of its set
pub positions-set_of_list : (ks : List ℕ) → Rises 0 ks → positions (set_of_list ks) ≡ ks
positions-set_of_list ks h = rising_unique 0 _ ks (positions_rise (set_of_list ks)) h
    (λ q. sym (contains-positions (set_of_list ks) q) ∙ contains-set_of_list ks q)

has-below : (ks : List ℕ) (q : ℕ) → has ks q ≡ true → q < bound_of ks
has-below [] q m = absurd (false≢true m)
has-below (k ∷ ks) q m = either (or_cases (q == k) (has ks q) m)
    (λ e. let same = eqb-true q k e in omega arith) (λ e. let l = has-below ks q e in omega arith)

missing-at : (s : Positions) (n p : ℕ) → bound_of (positions s) ≤ p + n → contains s (missing_within s p n) ≡ false
missing-at s zero p h =
    false_from_ne_true _ (λ m. let l = has-below (positions s) p (sym (contains-positions s p) ∙ m) in omega arith)
missing-at s (suc n) p h =
    cond_both (contains s p) _ _ (λ k. contains s k ≡ false) (λ e. missing-at s n (p + 1) (omega arith)) (λ e. e)

missing-below : (s : Positions) (n p q : ℕ) → p ≤ q → q < missing_within s p n → contains s q ≡ true
missing-below s zero p q h = λ l. absurd (omega arith)
missing-below s (suc n) p q h =
    cond_both (contains s p) _ _ (λ k. q < k → contains s q ≡ true)
    (λ e l. either (cases_eq p q) (λ same. subst (λ (k : ℕ). contains s k ≡ true) same e)
    (λ other. missing-below s n (p + 1) q (omega arith) l))
    (λ e l. absurd (omega arith))

missing-le : (s : Positions) (n p : ℕ) → p ≤ missing_within s p n
missing-le s zero p = omega arith
missing-le s (suc n) p =
    let l = missing-le s n (p + 1) in cond_both (contains s p) _ _ (λ k. p ≤ k) (λ e. omega arith) (λ e. omega arith)

-- the first missing position from p on isn't in the set, those from p up to it are, and it is the only such position
pub first_missing-misses : (s : Positions) (p : ℕ) → contains s (first_missing s p) ≡ false
unfolding first_missing
first_missing-misses s p = missing-at s _ p (omega arith)

pub first_missing-has : (s : Positions) (p q : ℕ) → p ≤ q → q < first_missing s p → contains s q ≡ true
unfolding first_missing
first_missing-has s p q h l = missing-below s _ p q h l

pub first_missing-le : (s : Positions) (p : ℕ) → p ≤ first_missing s p
unfolding first_missing
first_missing-le s p = missing-le s _ p

pub first_missing-is : (s : Positions) (p e : ℕ) → p ≤ e → contains s e ≡ false →
    ((q : ℕ) → p ≤ q → q < e → contains s q ≡ true) → first_missing s p ≡ e
first_missing-is s p e h misses all =
    let m = first_missing s p in
    let least : p ≤ m = first_missing-le s p in
    let not_below : m < e → ⊥ = λ l. false≢true (sym (first_missing-misses s p) ∙ all m least l) in
    let not_above : e < m → ⊥ = λ l. false≢true (sym misses ∙ first_missing-has s p e h l) in
    either (cases_lt m e) (λ l. absurd (not_below l))
    (λ l. either (cases_lt e m) (λ k. absurd (not_above k)) (λ k. omega arith))

-- where a run begins
pub begins-true : (s : Positions) (p : ℕ) → (0 < p → contains s (p - 1) ≡ false) → begins_run s p ≡ true
unfolding begins_run
begins-true s p h =
    either (cases_eq p 0) (λ e. or_left (p == 0) _ (eq-eqb p 0 e)) (λ e. or_right (p == 0) _ (ap not (h (omega arith))))

pub begins-false : (s : Positions) (p : ℕ) → 0 < p → contains s (p - 1) ≡ true → begins_run s p ≡ false
unfolding begins_run
begins-false s p l h = ap (λ b. (p == 0) || not b) h ∙ grind (arith, nat_tests)

-- positions counted from m on
has-shifted : (m : ℕ) (ks : List ℕ) (q : ℕ) → has (map (λ p. p - m) (filter (nat_le m) ks)) q ≡ has ks (q + m)
has-shifted m [] q = refl
has-shifted m (k ∷ ks) q =
    let rest = has-shifted m ks q in
    cond_both (nat_le m k) _ _ (λ l. has (map (λ p. p - m) l) q ≡ has (k ∷ ks) (q + m))
    (λ e. grind (arith, nat_tests)) (λ e. grind (arith, nat_tests))

pub contains-shift_down : (s : Positions) (m q : ℕ) → contains (shift_down s m) q ≡ contains s (q + m)
unfolding shift_down
contains-shift_down s m q =
    contains-set_of_list _ q ∙ has-shifted m (positions s) q ∙ sym (contains-positions s (q + m))

has-up : (n : ℕ) (ks : List ℕ) (q : ℕ) → has (map (λ p. n + p) ks) q ≡ (nat_le n q && has ks (q - n))
has-up n [] q = sym (and_right (nat_le n q) false refl)
has-up n (k ∷ ks) q = let rest = has-up n ks q in grind (arith, nat_tests)

pub contains-shift_up : (s : Positions) (n q : ℕ) → contains (shift_up s n) q ≡ (nat_le n q && contains s (q - n))
unfolding shift_up
contains-shift_up s n q =
    contains-set_of_list _ q ∙ has-up n (positions s) q ∙ ap (λ b. nat_le n q && b) (sym (contains-positions s (q - n)))

-- what is in a set that was made from others
pub ruleset sets = (contains-with_range, contains-shift_up, contains-shift_down, contains-nothing, nat_tests)

-- a set with the range (o, 0) is itself
pub with_range-none : (s : Positions) (o n : ℕ) → n ≡ 0 → with_range s o n ≡ s
with_range-none s o n e = same_positions _ _ (λ q. grind (arith, sets))

pub shift_down-zero : (s : Positions) (m : ℕ) → m ≡ 0 → shift_down s m ≡ s
shift_down-zero s m e = same_positions _ _ (λ q. grind (arith, sets))

-- the front, and a set with the positions below m, counted from n on
pub front-is : (s : Positions) (n : ℕ) → contains s n ≡ false → ((q : ℕ) → q < n → contains s q ≡ true) → front s ≡ n
unfolding front
front-is s n misses all = first_missing-is s 0 n (omega arith) misses (λ q _ l. all q l)

pub front-with_range : (s : Positions) (n : ℕ) → contains s n ≡ false → front (with_range s 0 n) ≡ n
front-with_range s n misses =
    front-is _ n (contains-with_range s 0 n n ∙ grind (arith, nat_tests))
    (λ q l. contains-with_range s 0 n q ∙ grind (arith, nat_tests))

pub shift_down-with_range : (s : Positions) (m n : ℕ) → m ≤ n → shift_down (with_range s 0 m) n ≡ shift_down s n
shift_down-with_range s m n l = same_positions _ _ (λ q. grind (arith, sets))

-- there is one maximal run for each start
pub runs-maximal_runs : (s : Positions) → runs s ≡ length (maximal_runs s)
unfolding maximal_runs runs
runs-maximal_runs s = sym (length-map (run_starts s) (λ p. (p, first_missing s p)))

-- a set that was shifted up
rises_up : (n low high : ℕ) (ks : List ℕ) → high ≤ n + low → Rises low ks → Rises high (map (λ p. n + p) ks)
rises_up n low high [] l h = tt
rises_up n low high (k ∷ ks) l h = (omega (arith, h.0), rises_up n (k + 1) (n + k + 1) ks (omega arith) h.1)

filter_up : (f g : ℕ → Bool) (n : ℕ) (ks : List ℕ) → ((k : ℕ) → f (n + k) ≡ g k) →
    filter f (map (λ p. n + p) ks) ≡ map (λ p. n + p) (filter g ks)
filter_up f g n [] same = refl
filter_up f g n (k ∷ ks) same =
    let more = map (λ p. n + p) ks in
    ap (λ b. cond b ((n + k) ∷ filter f more) (filter f more)) (same k)
    ∙ elim (g k) as
    (λ b. cond b ((n + k) ∷ filter f more) (filter f more)
    ≡ map (λ p. n + p) (cond b (k ∷ filter g ks) (filter g ks))) [
      | true ↦ ap (λ xs. (n + k) ∷ xs) (filter_up f g n ks same)
      | false ↦ filter_up f g n ks same
    ]

ends_up : (f g : ℕ → ℕ) (n : ℕ) (ks : List ℕ) → ((k : ℕ) → f (n + k) ≡ n + g k) →
    map (λ (p : ℕ). (p, f p)) (map (λ p. n + p) ks) ≡ runs_shifted_up n (map (λ (p : ℕ). (p, g p)) ks)
ends_up f g n [] same = refl
ends_up f g n (k ∷ ks) same = λ i. (n + k, same k i) ∷ ends_up f g n ks same i

module _ (s : Positions) (n : ℕ) where
  there : (q p : ℕ) → q ≡ n + p → contains (shift_up s n) q ≡ contains s p
  there q p e =
      contains-shift_up s n q ∙ (λ i. le-leb n q (omega arith) i && contains s (q - n)) ∙ ap (contains s) (omega arith)

  gone : (q : ℕ) → q < n → contains (shift_up s n) q ≡ false
  gone q l = contains-shift_up s n q ∙ ap (λ b. b && contains s (q - n)) (lt-leb n q l)

  positions-shift_up : positions (shift_up s n) ≡ map (λ p. n + p) (positions s)
  unfolding shift_up
  positions-shift_up = positions-set_of_list _ (rises_up n 0 0 (positions s) (omega arith) (positions_rise s))

  begins-shift_up : (p : ℕ) → begins_run (shift_up s n) (n + p) ≡ begins_run s p
  begins-shift_up p = search (rules, either, cases_lt, there, cases_Bool, begins-false, begins-true, gone)

  first_missing-shift_up : (p : ℕ) → first_missing (shift_up s n) (n + p) ≡ n + first_missing s p
  first_missing-shift_up p =
      let least = first_missing-le s p in
      first_missing-is (shift_up s n) (n + p) (n + first_missing s p) (omega arith)
      (there (n + first_missing s p) (first_missing s p) refl ∙ first_missing-misses s p)
      (λ q a b. there q (q - n) (omega arith) ∙ first_missing-has s p (q - n) (omega arith) (omega arith))

  run_starts-shift_up : run_starts (shift_up s n) ≡ map (λ p. n + p) (run_starts s)
  unfolding run_starts
  run_starts-shift_up = search (rules, positions-shift_up, filter_up, begins-shift_up)

  pub maximal_runs-shift_up : maximal_runs (shift_up s n) ≡ runs_shifted_up n (maximal_runs s)
  unfolding maximal_runs
  maximal_runs-shift_up =
      ap (map (λ p. (p, first_missing (shift_up s n) p))) run_starts-shift_up
      ∙ ends_up (first_missing (shift_up s n)) (first_missing s) n (run_starts s) first_missing-shift_up

  pub runs-shift_up : runs (shift_up s n) ≡ runs s
  unfolding runs
  runs-shift_up = ap length run_starts-shift_up ∙ length-map (run_starts s) (λ p. n + p)

pub are_same_decides : (s t : Positions) → Decides (are_same s t) (s ≡ t)
are_same_decides s t = search (rules, same_positions, contains-positions)

-- what a refused range is
pub too_many : (most_runs : ℕ) (s : Positions) (o n : ℕ) →
    (MakesTooManyRuns most_runs s o n → (0 < n) × (most_runs < runs (with_range s o n)))
    × ((0 < n) × (most_runs < runs (with_range s o n)) → MakesTooManyRuns most_runs s o n)
too_many most_runs s o n = search rules

pub few_enough : (most_runs : ℕ) (s : Positions) (o n : ℕ) → 0 < n → makes_too_many_runs most_runs s o n ≡ false →
    runs (with_range s o n) ≤ most_runs
few_enough most_runs s o n some within = search (rules, either, cases_lt, false≢true, too_many)
