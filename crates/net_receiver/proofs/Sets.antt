-- Where a test is first false, lists of a range of positions, kept lists, held bytes as a map, and the runs of a set.
use Rattle.std.proofs.Common.{lt-ltb}
use Rattle.std.proofs.lemmas.Bool.{leb-true}
use Rattle.net_assembler.proofs.Sets.{contains-set_of_list, runs-shift_up}
use Rattle.std.proofs.lemmas.List.FromFn.{take-map-range_with_len}
use Rattle.net_receiver.specs.{byte_at, with_bytes_at}
use Rattle.std.specs.Ordering.{eq_by_cmp}
use Rattle.net_receiver.proofs.Words.{◌≡◌, ℕ, ◌<◌, ◌≤◌, Bool, true, false, zero, suc, ◌+◌, ◌-◌, min, ◌∷◌, ◌++◌, map}
use Rattle.net_receiver.proofs.Words.{take, drop, refl, sym, ap, ◌∙◌, arith, cond, List, [], Option, Some, None}
use Rattle.net_receiver.proofs.Words.{is_some, slice_get, nat_lt, le-leb, ◌&&◌, ◌||◌, nat_le, ◌==◌, length-append, All}
use Rattle.net_receiver.proofs.Words.{subst, cond-true, cond-false, lt-leb, ltb-true, and_parts, and_from, or_right}
use Rattle.net_receiver.proofs.Words.{Positions, contains, first_missing, runs, maximal_runs, shift_up, runs_shifted_up}
use Rattle.net_receiver.proofs.Words.{IsMaximalRun, first_missing-misses, first_missing-has, first_missing-le, has}
use Rattle.net_receiver.proofs.Words.{same_positions, contains-shift_up, range_with_len, list_any, take_min}
use Rattle.net_receiver.proofs.Words.{length-map-range_with_len, option_or, nat_tests, slice_get_cases, none-some, gets}
use Rattle.net_receiver.proofs.Words.{common_steps, Piece, end, piece_byte_at, piece_within, is_covered, HeldBytes}
use Rattle.net_receiver.proofs.Words.{domain, first_lacking, held_with_piece, receiver_with_piece, next_position}
use Rattle.net_receiver.proofs.Words.{EndBelow, ReceiverState, nat_cmp, nat_cmp_total, unsigned_tied, All-tail}
use Rattle.net_receiver.proofs.Words.{All-weaker, MaximalRunsOfEverySet}
use Rattle.std.specs.FinMap as fin

-- ---- The first place at which a test is false.
pub record IsFirst (t : ℕ → Bool) (p n : ℕ) : Type 0 where
  pub from : p ≤ n
  pub before : (q : ℕ) → p ≤ q → q < n → t q ≡ true
  pub here : t n ≡ false

pub first_unique : (t : ℕ → Bool) (p m n : ℕ) → IsFirst t p m → IsFirst t p n → m ≡ n
first_unique t p m n a b = grind (arith, nat_tests)

pub missing_is_first : (s : Positions) (p : ℕ) → IsFirst (contains s) p (first_missing s p)
missing_is_first s p = grind (arith, nat_tests, first_missing-has, first_missing-le, first_missing-misses)

-- ---- Lists made of a range of positions.
module _ {X : Type 0} (g : ℕ → X) where
  pub map_range_split : (a x y : ℕ) → map g (range_with_len a (x + y)) ≡ map g (range_with_len a x)
      ++ map g (range_with_len (a + x) y)
  map_range_split a zero y =
      (let e : 0 + y ≡ y = omega arith in let h : a ≡ a + 0 = omega arith in λ i. map g (range_with_len (h i) (e i)))
  map_range_split a (suc x) y =
      let e : suc x + y ≡ suc (x + y) = omega arith in
      let h : (a + 1) + x ≡ a + suc x = omega arith in
      ap (λ n. map g (range_with_len a n)) e
      ∙ ap (λ l. g a ∷ l) (map_range_split (a + 1) x y
      ∙ ap (λ b. map g (range_with_len (a + 1) x) ++ map g (range_with_len b y)) h)

  pub map_range_same : (h : ℕ → X) (a n : ℕ) → ((q : ℕ) → a ≤ q → q < a + n → g q ≡ h q) →
      map g (range_with_len a n) ≡ map h (range_with_len a n)
  map_range_same h a zero same = refl
  map_range_same h a (suc n) same =
      λ i. same a (omega arith) (omega arith) i ∷ map_range_same h (a
      + 1) n (λ q l m. same q (omega arith) (omega arith)) i

  pub take_range : (c a n : ℕ) → take c (map g (range_with_len a n)) ≡ map g (range_with_len a (min c n))
  take_range c a n =
      grind (arith, nat_tests, common_steps, take_min, length-map-range_with_len, take-map-range_with_len)

  pub drop_range : (c a n : ℕ) → drop c (map g (range_with_len a n))
      ≡ map g (range_with_len (a + min c n) (n - min c n))
  drop_range zero a n = (let e : n ≡ n - min 0 n = omega arith in let h : a ≡ a + min 0 n = omega arith in
      λ i. map g (range_with_len (h i) (e i)))
  drop_range (suc c) a zero =
      (let e : 0 ≡ 0 - min (suc c) 0 = omega arith in ap (λ k. map g (range_with_len (a + min (suc c) 0) k)) e)
  drop_range (suc c) a (suc n) =
      let e : n - min c n ≡ suc n - min (suc c) (suc n) = omega arith in
      let h : (a + 1) + min c n ≡ a + min (suc c) (suc n) = omega arith in
      drop_range c (a + 1) n ∙ (λ i. map g (range_with_len (h i) (e i)))

-- ---- Kept lists: what a position has after one more entry.
pub option_or-none : {A : Type 0} (o : Option A) → option_or o None ≡ o
option_or-none None = refl
option_or-none (Some x) = refl

pub option_or_assoc : {A : Type 0} (a b c : Option A) → option_or (option_or a b) c ≡ option_or a (option_or b c)
option_or_assoc None b c = refl
option_or_assoc (Some x) b c = refl

-- the newest entry's byte, or otherwise the byte that was there
pub byte_at_push : (k : List Piece) (e : Piece) (p : ℕ) → byte_at (k ++ e ∷ []) p
    ≡ option_or (piece_byte_at e p) (byte_at k p)
unfolding byte_at
byte_at_push [] e p = sym (option_or-none (piece_byte_at e p))
byte_at_push (x ∷ k) e p =
    ap (λ o. option_or o (piece_byte_at x p)) (byte_at_push k e p)
    ∙ option_or_assoc (piece_byte_at e p) (byte_at k p) (piece_byte_at x p)

pub piece_before : (e : Piece) (p : ℕ) → p < e.start → piece_byte_at e p ≡ None
piece_before e p h = cond-false _ _ _ (lt-leb e.start p h)

pub piece_from : (e : Piece) (p : ℕ) → e.start ≤ p → piece_byte_at e p ≡ slice_get e.bytes (p - e.start)
piece_from e p h = cond-true _ _ _ (le-leb e.start p h)

-- a position of an entry
pub piece_has : (e : Piece) (p : ℕ) → is_some (piece_byte_at e p) ≡ (nat_le e.start p && nat_lt p (end e))
piece_has e p = (let cases = slice_get_cases e.bytes (p - e.start) in grind (arith, nat_tests))

pub piece_at : (e : Piece) (p : ℕ) → is_some (piece_byte_at e p) ≡ true → (e.start ≤ p) × (p < end e)
piece_at e p h = (let both = and_parts _ _ (sym (piece_has e p) ∙ h) in
    (leb-true e.start p both.0, ltb-true p (end e) both.1))

pub piece_some : (e : Piece) (p : ℕ) → (e.start ≤ p) × (p < end e) → is_some (piece_byte_at e p) ≡ true
piece_some e p h = piece_has e p ∙ and_from _ _ (le-leb e.start p h.0) (lt-ltb p (end e) h.1)

pub some_or : {A : Type 0} (a b : Option A) → is_some (option_or a b) ≡ (is_some a || is_some b)
some_or None b = refl
some_or (Some x) b = refl

pub some_cond : {A : Type 0} (b : Bool) (o : Option A) → is_some (cond b o None) ≡ (b && is_some o)
some_cond true o = refl
some_cond false o = refl

pub cond_some : {A : Type 0} (t : Bool) (o : Option A) (b : A) → cond t o None ≡ Some b → (t ≡ true) × (o ≡ Some b)
cond_some true o b e = (refl, e)
cond_some false o b e = absurd (none-some b e)

pub or_swap : (a b : Bool) → (a || b) ≡ (b || a)
or_swap a b = grind arith

pub slice_get-drop : {A : Type 0} (n : ℕ) (xs : List A) (i : ℕ) → slice_get (drop n xs) i ≡ slice_get xs (n + i)
slice_get-drop n xs i = grind (arith, common_steps, gets)

pub slice_get-take : {A : Type 0} (n : ℕ) (xs : List A) (i : ℕ) →
    slice_get (take n xs) i ≡ cond (nat_lt i n) (slice_get xs i) None
slice_get-take n xs i = grind (arith, nat_tests, common_steps, gets)

-- a clip has what the whole has between its limits
pub clip_byte : (low high : ℕ) (e : Piece) (p : ℕ) →
    piece_byte_at (piece_within low high e) p ≡ cond (nat_le low p && nat_lt p high) (piece_byte_at e p) None
clip_byte low high e p = grind (arith, nat_tests, slice_get-drop, slice_get-take)

pub clip_at : (low high : ℕ) (e : Piece) (p b : ℕ) → piece_byte_at (piece_within low high e) p ≡ Some b →
    (low ≤ p) × (p < high) × (piece_byte_at e p ≡ Some b)
clip_at low high e p b is = grind (arith, nat_tests, cond_some, clip_byte, and_parts, leb-true, ltb-true)

pub covered_push : (k : List Piece) (e : Piece) (p : ℕ) → is_covered k p ≡ true → is_covered (k ++ e ∷ []) p ≡ true
covered_push k e p h = ap is_some (byte_at_push k e p) ∙ some_or (piece_byte_at e p) (byte_at k p) ∙ or_right _ _ h

-- ---- Held bytes as a map: what `with_bytes_at` leaves, and how far a map can go without a gap.
pub get_insert : (m : HeldBytes) (k v q : ℕ) → fin.get (fin.insert m k v) q ≡ cond (q == k) (Some v) (fin.get m q)
get_insert m k v q = fin.get-insert nat_cmp_total m k v q ∙ ap (λ b. cond b (Some v) (fin.get m q)) (unsigned_tied q k)

pub same_both : {A : Type 0} (b : Bool) (x : A) → cond b x x ≡ x
same_both true x = refl
same_both false x = refl

pub piece_cons : (p x : ℕ) (xs : List ℕ) (q : ℕ) →
    piece_byte_at (record { start = p; bytes = x ∷ xs }) q
    ≡ cond (q == p) (Some x) (piece_byte_at (record { start = p + 1; bytes = xs }) q)
piece_cons p x xs q = grind (arith, nat_tests)

or_cond : {A : Type 0} (b : Bool) (x : A) (y z : Option A) →
    cond b (Some x) (option_or y z) ≡ option_or (cond b (Some x) y) z
or_cond true x y z = refl
or_cond false x y z = refl

pub get-with_bytes_at : (m : HeldBytes) (p : ℕ) (xs : List ℕ) (q : ℕ) →
    fin.get (with_bytes_at m p xs) q ≡ option_or (piece_byte_at (record { start = p; bytes = xs }) q) (fin.get m q)
get-with_bytes_at m p [] q = ap (λ o. option_or o (fin.get m q)) (sym (same_both (nat_le p q) None))
get-with_bytes_at m p (x ∷ xs) q =
    get_insert (with_bytes_at m (p + 1) xs) p x q
    ∙ ap (cond (q == p) (Some x)) (get-with_bytes_at m (p + 1) xs q)
    ∙ or_cond (q == p) x _ _
    ∙ ap (λ o. option_or o (fin.get m q)) (sym (piece_cons p x xs q))

listed : (ks : List ℕ) (q : ℕ) → list_any (eq_by_cmp nat_cmp q) ks ≡ has ks q
listed [] q = refl
listed (k ∷ ks) q = λ i. unsigned_tied q k i || listed ks q i

pub contains-keys : (m : HeldBytes) (q : ℕ) → has (fin.keys m) q ≡ fin.contains_key m q
contains-keys m q = sym (fin.contains_key-keys m q ∙ listed (fin.keys m) q)

pub contains-domain : (m : HeldBytes) (q : ℕ) → contains (domain m) q ≡ fin.contains_key m q
contains-domain m q = contains-set_of_list (fin.keys m) q ∙ contains-keys m q

pub first_lacking_is : (m : HeldBytes) (n : ℕ) → IsFirst (fin.contains_key m) n (first_lacking m n)
first_lacking_is m n =
    let f = missing_is_first (domain m) n in
    record {
      from = f.from;
      before = λ q a b. sym (contains-domain m q) ∙ f.before q a b;
      here =
          sym (contains-domain m _) ∙ f.here;
    }

-- after a kept part the first missing position is the first one that the held bytes lack, with those of the part
pub next_joined : (v : ReceiverState) (part : Piece) → next_position (receiver_with_piece v part)
    ≡ first_lacking (held_with_piece v part) (next_position v)
next_joined v part = grind (arith, nat_tests, first_lacking_is, length-append, length-map-range_with_len)

-- what is held at positions from n on
pub get_from : (m : HeldBytes) (n p : ℕ) → fin.get (fin.retain_keys m (λ q. nat_le n q)) p
    ≡ cond (nat_le n p) (fin.get m p) None
get_from m n p = fin.get-retain_keys m (λ q. nat_le n q) p
    (λ x e. ap (nat_le n) (sym (fin.nat_cmp-IsAntisymmetric p x e)))

pub same_bytes : (m n : HeldBytes) → ((q : ℕ) → fin.get m q ≡ fin.get n q) → m ≡ n
same_bytes m n same = fin.same_map nat_cmp_total fin.nat_cmp-IsAntisymmetric m n same

-- the held bytes, with those of a kept part
module _ (v : ReceiverState) (part : Piece) where
  abbrev pub updated : HeldBytes
  updated = held_with_piece v part

  -- the first position that they lack
  abbrev pub lacks : ℕ
  lacks = first_lacking updated (next_position v)

  pub lacking : IsFirst (fin.contains_key updated) (next_position v) lacks
  lacking = first_lacking_is updated (next_position v)

  pub updated_has : (p : ℕ) → fin.contains_key updated p ≡ (is_some (piece_byte_at part p) || fin.contains_key v.held p)
  updated_has p = ap is_some (get-with_bytes_at v.held part.start part.bytes p)
      ∙ some_or (piece_byte_at part p) (fin.get v.held p)

  -- those from there on are left
  pub left_has : (p : ℕ) → fin.contains_key (receiver_with_piece v part).held p
      ≡ (nat_le lacks p && fin.contains_key updated p)
  left_has p = ap is_some (get_from updated lacks p) ∙ some_cond (nat_le lacks p) (fin.get updated p)

  pub left_above : (p : ℕ) → fin.contains_key (receiver_with_piece v part).held p ≡ true →
      (lacks < p) × (fin.contains_key updated p ≡ true)
  left_above p h = grind (arith, nat_tests, and_parts, left_has, leb-true, lacking)

-- ---- The runs of a set that is another one shifted up, and runs below a limit.
-- t is s shifted up by n
abbrev pub IsShiftedUp : ℕ → Positions → Positions → Type 0
IsShiftedUp n s t = (q : ℕ) → contains t q ≡ (nat_le n q && contains s (q - n))

module _ (n : ℕ) (s t : Positions) (shifted : IsShiftedUp n s t) where
  shifted_up : t ≡ shift_up s n
  shifted_up = same_positions t (shift_up s n) (λ q. shifted q ∙ sym (contains-shift_up s n q))

  -- it has as many runs
  pub runs_shifted : runs t ≡ runs s
  runs_shifted = ap runs shifted_up ∙ runs-shift_up s n

-- where each position is below a limit, the runs are pairs that rise and end by it
pub ends_below : MaximalRunsOfEverySet → (limit : ℕ) (s : Positions) →
    ((p : ℕ) → contains s p ≡ true → p + 1 < limit) → EndBelow limit (maximal_runs s)
ends_below law limit s all = grind (arith, nat_tests, maximal_runs)

-- where each position is above a limit, so are the runs
pub begins_above : MaximalRunsOfEverySet → (limit : ℕ) (s : Positions) → ((p : ℕ) → contains s p ≡ true → limit < p) →
    All (λ r. (limit < r.0) × (r.0 < r.1)) (maximal_runs s)
begins_above law limit s all =
    All-weaker (IsMaximalRun s) (λ r. (limit < r.0) × (r.0 < r.1)) (λ r run. (let k = run.some in
    (all r.0 (run.inside r.0 (omega arith) (omega arith)), k))) (maximal_runs s) (law s).maximal

-- where each position is below a limit, each run ends by it
pub ends_within : MaximalRunsOfEverySet → (limit : ℕ) (s : Positions) → ((p : ℕ) → contains s p ≡ true → p < limit) →
    All (λ r. r.1 ≤ limit) (maximal_runs s)
ends_within law limit s all = All-weaker (IsMaximalRun s) (λ r. r.1 ≤ limit) (λ r run. (let k = run.some in
    let l = all (r.1 - 1) (run.inside (r.1 - 1) (omega arith) (omega arith)) in omega arith))
    (maximal_runs s) (law s).maximal

pub rest_below : (limit n : ℕ) (rs rest : List (ℕ × ℕ)) (r : ℕ × ℕ) → rs ≡ r ∷ rest →
    EndBelow limit (runs_shifted_up n rs) → EndBelow limit (runs_shifted_up n rest)
rest_below limit n rs rest r e below =
    All-tail (λ r. (r.0 < r.1) × (r.1 < limit)) (
      n + r.0,
      n
          + r.1,
    ) (runs_shifted_up n rest) (subst (λ xs. EndBelow limit (runs_shifted_up n xs)) e below)
