-- What a search finds in rising runs: the end, the next missing range, and how many positions of a range are present.
use Rattle.std.proofs.Common.{◌≡◌, ℕ, zero, suc, ◌+◌, ◌-◌, ◌<◌, ◌≤◌, ◌^◌, max, min, false, List, [], ◌∷◌, length, drop}
use Rattle.std.proofs.Common.{take, get_or, nat_lt, refl, sym, ap, subst, ◌∙◌, arith, rules}
use Rattle.std.proofs.Math.Seq.{drop-cons}
use Rattle.std.proofs.lemmas.List.{drop_all, get_or-take, length-take-le, nil_from_length}
use Rattle.std.proofs.lemmas.Bool.{cases_lt, lt-ltb, le-ltb, false≢true}
use Rattle.std.proofs.lemmas.Bool.Decides.{nat_tests}
use Rattle.std.specs.Prelude.{Some, None}
use Rattle.std.specs.Int.{from_bool}
use Rattle.net_assembler.specs.declared.assembler.head.AssemblerHead.{AssemblerHead}
use Rattle.net_assembler.specs.Positions.{EndsHole, IsEnd, contains, first_missing, maximal_runs}
use Rattle.net_assembler.specs.Positions.{present_count, runs_shifted_up}
use Rattle.net_assembler.specs.RunLists.{AreRuns, HasSoundRuns, IsRising, SplitsRuns, end_at, runs_of, set_of}
use Rattle.net_assembler.specs.RunLists.{set_of_runs, start_at, used_runs}
use Rattle.net_ring.specs.Width.{shortfall}
use Rattle.net_assembler.proofs.Runs.{in_runs, not_in_runs, rising_from, contains-set_of_runs}
use Rattle.net_assembler.proofs.Joins.{apart, at_run, in_run_at, not_before, rest_rises, starts_rise}
use Rattle.net_assembler.proofs.Sets.{either, first_missing-is}
use Rattle.net_assembler.proofs.SoundHeads.{are_runs, end_of, length-runs_of, length-used_runs, maximal_runs-set_of}
use Rattle.net_assembler.proofs.SoundHeads.{pair_fits, run_at, run_start}

-- ---- runs of which n start at or before p
module _ (rs : List (ℕ × ℕ)) (p n : ℕ) (h : AreRuns rs) (s : SplitsRuns rs p n) where
  -- a position from p on, before the next run, is in the last of these n, if it is before its end
  within : (q : ℕ) → 0 < n → p ≤ q → (n < length rs → q < start_at rs n) → in_runs rs q ≡ nat_lt q (end_at rs (n - 1))
  within q some from before =
      in_run_at 0 rs (n - 1) q h (omega (arith, s.few, some))
      (omega (arith, s.before (n - 1) (omega (arith, some)), from))
      (λ k a b. let r = starts_rise 0 rs n k h (omega (arith, a, some)) b in
      omega (arith, r, before (omega (arith, a, b))))

  -- and where there is none of them, in no run
  without : (q : ℕ) → n ≡ 0 → (n < length rs → q < start_at rs n) → in_runs rs q ≡ false
  without q none before =
      not_before 0 rs q h (λ some. omega (arith, before (omega (arith, none, some)), ap (start_at rs) none))

  -- from p and from the end of the last of them on, up to the next run, nothing is present
  lacks : (e q : ℕ) → (0 < n → e ≡ end_at rs (n - 1)) → p ≤ q → e ≤ q → (n < length rs → q < start_at rs n) →
      in_runs rs q ≡ false
  lacks e q is from past before = search (rules, either, cases_lt, within, le-ltb, without)

  -- whether p is present
  pub here : (e : ℕ) → (n ≡ 0 → e ≡ 0) → (0 < n → e ≡ end_at rs (n - 1)) → nat_lt p e ≡ contains (set_of_runs rs) p
  here e zeroth is = search (rules, contains-set_of_runs, either, cases_lt, within, without, le-ltb)

  -- the first missing position from p on
  pub missing_from : (e : ℕ) → (n ≡ 0 → e ≡ 0) → (0 < n → e ≡ end_at rs (n - 1)) →
      max p e ≡ first_missing (set_of_runs rs) p
  missing_from e zeroth is =
      let free : (q : ℕ) → p ≤ q → e ≤ q → q ≤ max p e → contains (set_of_runs rs) q ≡ false =
      λ q a b c. contains-set_of_runs rs q ∙ lacks e q is a b
      (λ l. either (cases_lt 0 n)
      (λ some.
      let next = apart 0 rs (n - 1) n h (omega (arith, some)) l in
      let after = s.after n (omega arith) l in
      omega (arith, next, after, c, is some))
      (λ none. let after = s.after n (omega arith) l in omega (arith, after, c, zeroth (omega (arith, none))))) in
      sym (first_missing-is (set_of_runs rs) p (max p e) (omega arith)
      (free (max p e) (omega arith) (omega arith) (omega arith))
      (λ q a b.
      let some : 0 < n = either (cases_lt 0 n) (λ l. l)
      (λ l. absurd (omega (arith, zeroth (omega (arith, l)), a, b))) in
      let below : q < end_at rs (n - 1) = omega (arith, is some, a, b) in
      contains-set_of_runs rs q
      ∙ within q some a (λ l. let next = apart 0 rs (n - 1) n h (omega (arith, some)) l in omega (arith, next, below))
      ∙ lt-ltb q (end_at rs (n - 1)) below))

  -- and where the missing range ends
  pub hole_some : (e : ℕ) → (n ≡ 0 → e ≡ 0) → (0 < n → e ≡ end_at rs (n - 1)) → n < length rs →
      EndsHole (set_of_runs rs) (max p e) (Some (start_at rs n))
  hole_some e zeroth is l = (
    either (cases_lt 0 n)
        (λ some. let next = apart 0 rs (n - 1) n h (omega (arith, some)) l in
        omega (arith, next, s.after n (omega arith) l, is some))
        (λ none. omega (arith, s.after n (omega arith) l, zeroth (omega (arith, none)))),
    contains-set_of_runs rs (start_at rs n)
        ∙ in_run_at 0 rs n (start_at rs n) h l (omega arith) (λ k a b.
        let next = apart 0 rs n k h a b in let run = at_run 0 rs n h l in omega (arith, next, run.1))
        ∙ lt-ltb (start_at rs n) (end_at rs n) (at_run 0 rs n h l).1,
    λ q a b. contains-set_of_runs rs q ∙ lacks e q is (omega (arith, a)) (omega (arith, a)) (λ _. b),
  )

  pub hole_none : (e : ℕ) → (0 < n → e ≡ end_at rs (n - 1)) → n ≡ length rs → EndsHole (set_of_runs rs) (max p e) None
  hole_none e is all = λ q a.
      contains-set_of_runs rs q
      ∙ lacks e q is (omega (arith, a)) (omega (arith, a)) (λ l. absurd (omega (arith, all, l)))

-- the end of the last run
pub last_end : (rs : List (ℕ × ℕ)) (n e : ℕ) → AreRuns rs → n ≡ length rs → (n ≡ 0 → e ≡ 0) →
    (0 < n → e ≡ end_at rs (n - 1)) →
    IsEnd (set_of_runs rs) e
last_end rs n e h all zeroth is =
    let at : (q : ℕ) → 0 < n → start_at rs (n - 1) ≤ q → contains (set_of_runs rs) q ≡ nat_lt q e =
    λ q some from.
    contains-set_of_runs rs q
    ∙ in_run_at 0 rs (n - 1) q h (omega (arith, all, some)) from (λ k a b. absurd (omega (arith, all, a, b)))
    ∙ ap (nat_lt q) (sym (is some)) in
    record {
      above = λ q has. either (cases_lt q e) (λ l. l) (λ past. absurd (either (cases_lt 0 n)
          (λ some.
          let run = at_run 0 rs (n - 1) h (omega (arith, all, some)) in
          false≢true (sym (at q some (omega (arith, run.1, is some, past)) ∙ le-ltb q e past) ∙ has))
          (λ none.
          false≢true (sym (contains-set_of_runs rs q
          ∙ not_before 0 rs q h (λ l. absurd (omega (arith, all, none, l)))) ∙ has))));
      reached = λ positive.
          let some : 0 < n = either (cases_lt 0 n) (λ l. l)
          (λ l. absurd (omega (arith, zeroth (omega (arith, l)), positive))) in
          let run = at_run 0 rs (n - 1) h (omega (arith, all, some)) in
          at (e - 1) some (omega (arith, run.1, is some)) ∙ lt-ltb (e - 1) e (omega (arith, positive));
    }

-- ---- how many positions runs have from p on and below e
abbrev pub overlap : List (ℕ × ℕ) → ℕ → ℕ → ℕ
overlap [] p e = 0
overlap (r ∷ rs) p e = (min r.1 e - max r.0 p) + overlap rs p e

overlap_none : (rs : List (ℕ × ℕ)) (p e : ℕ) → e ≤ p → overlap rs p e ≡ 0
overlap_none [] p e l = refl
overlap_none (r ∷ rs) p e l = let rest = overlap_none rs p e l in omega (arith, rest, l)

overlap_one : (low : ℕ) (rs : List (ℕ × ℕ)) (p e : ℕ) → IsRising low rs → p < e →
    overlap rs p e ≡ from_bool (in_runs rs p) + overlap rs (p + 1) e
overlap_one low [] p e h l = refl
overlap_one low (r ∷ rs) p e h l =
    let rest = overlap_one (r.1 + 1) rs p e h.2 l in
    let some = h.1 in
    let alone : p < r.1 → in_runs rs p ≡ false = λ b. not_in_runs (r.1 + 1) rs p h.2 (omega (arith, b)) in
    grind (arith, nat_tests)

present_of : (rs : List (ℕ × ℕ)) (n p : ℕ) → AreRuns rs → overlap rs p (p + n) ≡ present_count (set_of_runs rs) p n
present_of rs zero p h = overlap_none rs p (p + 0) (omega arith)
present_of rs (suc n) p h =
    let next : p + suc n ≡ p + 1 + n = omega arith in
    let one = overlap_one 0 rs p (p + suc n) h (omega arith) in
    let rest = present_of rs n (p + 1) h in
    one ∙ (λ i. from_bool (sym (contains-set_of_runs rs p) i) + (ap (overlap rs (p + 1)) next ∙ rest) i)

-- they are the present ones
pub present_overlap : (rs : List (ℕ × ℕ)) (p e : ℕ) → AreRuns rs →
    overlap rs p e ≡ present_count (set_of_runs rs) p (e - p)
present_overlap rs p e h = either (cases_lt p e)
    (λ l. let up : p + (e - p) ≡ e = omega (arith, l) in ap (overlap rs p) (sym up) ∙ present_of rs (e - p) p h)
    (λ l.
    let none : 0 ≡ e - p = omega (arith, l) in
    overlap_none rs p e l ∙ ap (present_count (set_of_runs rs) p) none)

-- runs that are counted from elsewhere
pub overlap-up : (n : ℕ) (rs : List (ℕ × ℕ)) (p e : ℕ) → overlap (runs_shifted_up n rs) p e ≡ overlap rs (p - n) (e - n)
overlap-up n [] p e = refl
overlap-up n (r ∷ rs) p e = let rest = overlap-up n rs p e in omega (arith, rest)

-- runs that end by p have none of them
pub overlap-drop : (rs : List (ℕ × ℕ)) (j p e : ℕ) → ((k : ℕ) → k < j → k < length rs → end_at rs k ≤ p) →
    overlap (drop j rs) p e ≡ overlap rs p e
overlap-drop rs zero p e ends = refl
overlap-drop [] (suc j) p e ends = refl
overlap-drop (r ∷ rs) (suc j) p e ends =
    let first = ends 0 (omega arith) (omega arith) in
    let rest = overlap-drop rs j p e (λ k a b. ends (suc k) (omega (arith, a)) (omega (arith, b))) in
    omega (arith, first, rest)

-- nor have runs that start at e or after it
overlap_past : (low : ℕ) (rs : List (ℕ × ℕ)) (p e : ℕ) → IsRising low rs → e ≤ low → overlap rs p e ≡ 0
overlap_past low [] p e h l = refl
overlap_past low (r ∷ rs) p e h l =
    let rest = overlap_past (r.1 + 1) rs p e h.2 (omega (arith, h.0, h.1, l)) in omega (arith, rest, h.0, l)

-- they have no more than there are positions below a limit
overlap_under : (low top : ℕ) (rs : List (ℕ × ℕ)) (p e : ℕ) → IsRising low rs → low ≤ top →
    ((k : ℕ) → k < length rs → end_at rs k ≤ top) → overlap rs p e + low ≤ top
overlap_under low top [] p e h l ends = omega (arith, l)
overlap_under low top (r ∷ rs) p e h l ends =
    let last = ends 0 (omega arith) in
    let rest = overlap_under r.1 top rs p e (rising_from r.1 (r.1 + 1) rs (omega arith) h.2) last
    (λ k b. ends (suc k) (omega (arith, b))) in
    omega (arith, rest, h.0, h.1)

-- ---- the first pairs of an array
module _ (xs : List (ℕ × ℕ)) (used : ℕ) (h : AreRuns (take used xs)) (room : used ≤ length xs) where
  abbrev cs : List (ℕ × ℕ)
  cs = take used xs

  pair : (k : ℕ) → k < used → get_or cs k (0, 0) ≡ get_or xs k (0, 0)
  pair k l = get_or-take used xs k (0, 0) l

  long : length cs ≡ used
  long = length-take-le used xs room

  -- what the pair k has of them, and those after it
  pub next_overlap : (k p e : ℕ) → k < used →
      overlap (drop k cs) p e ≡ (min (end_at xs k) e - max (start_at xs k) p) + overlap (drop (k + 1) cs) p e
  next_overlap k p e l =
      let is = pair k l in
      let rest = ap (λ rs. overlap rs p e) (drop-cons cs k (0, 0) (omega (arith, long, l))) in
      let next : suc k ≡ k + 1 = omega arith in
      rest
      ∙ (λ i. (min (is i).1 e - max (is i).0 p) + overlap (drop (next i) cs) p e)

  -- where the pair k starts at e or after it
  pub no_overlap : (k p e : ℕ) → k ≤ used → (k < used → e ≤ start_at xs k) → overlap (drop k cs) p e ≡ 0
  no_overlap k p e few past = either (cases_lt k used)
      (λ l. overlap_past (start_at xs k) (drop k cs) p e
      (rest_rises xs used h room k (start_at xs k) few (λ _. refl)) (past l))
      (λ l. ap (λ rs. overlap rs p e) (drop_all k cs (omega (arith, long, l))))

  -- where n of them start at or before p, those before the last of these end by then
  pub skipped_overlap : (n j p e : ℕ) → n ≤ used → j ≡ n - 1 → ((k : ℕ) → k < n → start_at xs k ≤ p) →
      overlap (drop j cs) p e ≡ overlap cs p e
  skipped_overlap n j p e few is before = search (rules, overlap-drop, apart, long, pair)

word : shortfall < 2 ^ 64
unfolding shortfall
word = omega arith

pub overlap_usize : (h : AssemblerHead) (xs : List (ℕ × ℕ)) → HasSoundRuns h xs → (p e : ℕ) →
    overlap (used_runs h xs) p e + shortfall < 2 ^ 64
overlap_usize h xs s p e =
    let top = 2 ^ 64 - 1 - shortfall in
    either (cases_lt 0 h.used)
    (λ some.
    let fits = pair_fits h xs s 0 some in
    let l = overlap_under 0 top (used_runs h xs) p e s.runs (omega arith) (λ k b.
    let used : k < h.used = omega (arith, b, length-used_runs h xs s) in
    omega (arith, pair_fits h xs s k used, end_of h xs s k used)) in
    omega (arith, l, fits))
    (λ none.
    let is = ap (λ rs. overlap rs p e)
    (nil_from_length (used_runs h xs) (omega (arith, length-used_runs h xs s, none))) in
    omega (arith, is, word))

pub overlap_set : (h : AssemblerHead) (xs : List (ℕ × ℕ)) → HasSoundRuns h xs → (p e : ℕ) →
    overlap (used_runs h xs) (p - h.first_start) (e - h.first_start) ≡ present_count (set_of h xs) p (e - p)
overlap_set h xs s p e =
    sym (overlap-up h.first_start (used_runs h xs) p e) ∙ present_overlap (runs_of h xs) p e (are_runs h xs s)

-- ---- a head and runs
module _ (h : AssemblerHead) (xs : List (ℕ × ℕ)) (s : HasSoundRuns h xs) where
  abbrev rs : List (ℕ × ℕ)
  rs = runs_of h xs

  starts : (k : ℕ) → k < h.used → start_at rs k ≡ h.first_start + start_at xs k
  starts k l = ap (λ (r : ℕ × ℕ). r.0) (run_at h xs s k l)

  ends : (k : ℕ) → k < h.used → end_at rs k ≡ h.first_start + end_at xs k
  ends k l = ap (λ (r : ℕ × ℕ). r.1) (run_at h xs s k l)

  count : length rs ≡ h.used
  count = length-runs_of h xs s

  -- a search finds how many start at or before p
  pub splits : (p n : ℕ) → h.first_start ≤ p → n ≤ h.used → ((k : ℕ) → k < n → start_at xs k ≤ p - h.first_start) →
      ((k : ℕ) → n ≤ k → k < h.used → p - h.first_start < start_at xs k) → SplitsRuns (maximal_runs (set_of h xs)) p n
  splits p n from few before after = search (rules, maximal_runs-set_of, count, starts)

  pub splits_none : (p : ℕ) → p < h.first_start → SplitsRuns (maximal_runs (set_of h xs)) p 0
  splits_none p below = search (rules, maximal_runs-set_of, starts, count)

  module _ (p n : ℕ) (is : SplitsRuns (maximal_runs (set_of h xs)) p n) where
    found : SplitsRuns rs p n
    found = subst (λ ts. SplitsRuns ts p n) (maximal_runs-set_of h xs s) is

    pub few_split : n ≤ h.used
    few_split = omega (arith, found.few, count)

    pub before_split : (k : ℕ) → k < n → h.first_start + start_at xs k ≤ p
    before_split k l = omega (arith, found.before k l, starts k (omega (arith, l, few_split)))

    pub some_split : h.first_start ≤ p → 0 < h.used → 0 < n
    some_split from some = search (rules, either, cases_lt, found, count, run_start)

    pub after_split : n < h.used → p < h.first_start + start_at xs n
    after_split l = omega (arith, found.after n (omega arith) (omega (arith, count, l)), starts n l)

  module _ (p n e : ℕ) (is : SplitsRuns (maximal_runs (set_of h xs)) p n) (zeroth : n ≡ 0 → e ≡ 0)
      (last : 0 < n → e ≡ h.first_start + end_at xs (n - 1)) where
    at_last : 0 < n → e ≡ end_at rs (n - 1)
    at_last some = omega (arith, last some, ends (n - 1) (omega (arith, some, few_split p n is)))

    pub here_is : nat_lt p e ≡ contains (set_of h xs) p
    here_is = here rs p n (are_runs h xs s) (found p n is) e zeroth at_last

    pub missing_is : max p e ≡ first_missing (set_of h xs) p
    missing_is = missing_from rs p n (are_runs h xs s) (found p n is) e zeroth at_last

    pub hole_ends : (end : ℕ) → n < h.used → end ≡ h.first_start + start_at xs n →
        EndsHole (set_of h xs) (max p e) (Some end)
    hole_ends end l at =
        subst (λ (q : ℕ). EndsHole (set_of h xs) (max p e) (Some q)) (starts n l ∙ sym at)
        (hole_some rs p n (are_runs h xs s) (found p n is) e zeroth at_last (omega (arith, count, l)))

    pub hole_open : n ≡ h.used → EndsHole (set_of h xs) (max p e) None
    hole_open all = hole_none rs p n (are_runs h xs s) (found p n is) e at_last (omega (arith, count, all))

  pub end_is : (e : ℕ) → (h.used ≡ 0 → e ≡ 0) → (0 < h.used → e ≡ h.first_start + end_at xs (h.used - 1)) →
      IsEnd (set_of h xs) e
  end_is e zeroth last =
      last_end rs h.used e (are_runs h xs s) (sym count) zeroth
      (λ some. omega (arith, last some, ends (h.used - 1) (omega (arith, some))))

-- what the loop of a count cites
pub ruleset counts = (next_overlap, overlap_usize)
