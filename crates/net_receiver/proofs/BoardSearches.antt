-- What a search in the offsets of a scoreboard says of its positions.
use Rattle.net_receiver.proofs.Words.{position_fits, common_steps, ◌≡◌, ℕ, ◌+◌, ◌-◌, ◌<◌, ◌≤◌, ◌^◌, min, max, true}
use Rattle.net_receiver.proofs.Words.{false, nat_tests, arith, sym, refl, ap, subst, ◌∙◌, zero, suc, cases_lt, either}
use Rattle.net_receiver.proofs.Words.{both_ways, not, from_bool, cases_Bool, ◌⊎◌, inl, inr, IsTrue, Some, None}
use Rattle.net_receiver.proofs.Words.{Positions, contains, first_missing, first_missing-is, first_missing-le}
use Rattle.net_receiver.proofs.Words.{first_missing-has, first_missing-misses, IsNextHole, board, List, [], ◌∷◌, ◌↔◌}
use Rattle.net_receiver.proofs.Words.{nat_lt, length, drop, get_or, slice_get, maximal_runs, IsMaximalRun}
use Rattle.net_receiver.proofs.Words.{runs_shifted_up, set_of, IsRising, sizes, beyond, reported_by, IsSoundBoard}
use Rattle.net_assembler.specs.Positions.{EndsHole, missing_count, present_count}
use Rattle.std.proofs.Math.Seq.{drop-cons}
use Rattle.std.proofs.lemmas.List.Elements.{All-get_or}
use Rattle.std.proofs.lemmas.Option.{slice_get_within, slice_get-get_or, get_or_from_slice_get}
use Rattle.net_assembler.specs.RunLists.{start_at}
use Rattle.net_assembler.proofs.Joins.{at_run}
use Rattle.net_assembler.proofs.Runs.{are_maximal_runs, rising-maximal_runs}
use Rattle.net_assembler.proofs.ShiftedRuns.{get_or-up, length-up}
use Rattle.net_receiver.specs.{runs_above, tell_loss}
use Rattle.net_receiver.specs.declared.scoreboard_head.ScoreboardHead.{ScoreboardHead}
use Rattle.net_receiver.proofs.Scoreboards.{board_below, board_from, all_above, tells_less, runs_beyond, sizes_fit}
use Rattle.net_receiver.proofs.Scoreboards.{as_many, number_of, number_beyond}

-- a scoreboard's offsets s, counted from b, which end below top
module _ (b top : ℕ) (s : Positions) (under : (p : ℕ) → IsTrue (contains s p) → p < top)
    (fits : (p : ℕ) → IsTrue (contains s p) → b + p + 1 < 2 ^ 64) where
  -- from top on nothing is reported
  pub none_from : (q : ℕ) → top ≤ q → contains s q ≡ false
  none_from q l = either (cases_Bool (contains s q)) (λ on. absurd (omega (arith, under q on, l))) (λ off. off)

  -- the first missing offset from o on is o, or follows a reported one
  after_one : (o : ℕ) → (first_missing s o ≡ o)
      ⊎ ((o < first_missing s o) × (contains s (first_missing s o - 1) ≡ true))
  after_one o = let least = first_missing-le s o in elim (cases_lt o (first_missing s o)) [
    | inl l ↦ inr (l, first_missing-has s o (first_missing s o - 1) (omega (arith, l)) (omega (arith, l)))
    | inr l ↦ inl (omega (arith, l, least))
  ]

  -- an offset from `from` on, which is cut at top
  module _ (from o : ℕ) (above : b ≤ from) (is : o ≡ min (from - b) top) where
    -- its first missing position fits 64 bits
    pub missing_fits : from < 2 ^ 64 → b + first_missing s o < 2 ^ 64
    missing_fits word = elim (after_one o) [
      | inl same ↦ omega (arith, same, is, above, word)
      | inr more ↦ omega (arith, fits (first_missing s o - 1) more.1, more.0)
    ]

    -- a position that isn't below that
    at_place : (q : ℕ) → q < max from (b + first_missing s o) → from ≤ q → contains s (q - b) ≡ true
    at_place q below low =
        first_missing-has s o (q - b) (omega (arith, is, low, above)) (omega (arith, below, low, above))

    lacks_place : contains s (max from (b + first_missing s o) - b) ≡ false
    lacks_place = let least = first_missing-le s o in elim (cases_lt (from - b) top) [
      | inl l ↦ (
          let e : first_missing s o ≡ max from (b + first_missing s o) - b = omega (arith, is, above, l, least) in
          ap (contains s) (sym e) ∙ first_missing-misses s o)
      | inr l ↦ none_from (max from (b + first_missing s o) - b) (omega (arith, l, above))
    ]

    -- the first missing position from p on
    pub missing_place : (p : ℕ) → from ≡ max p b → max from (b + first_missing s o) ≡ first_missing (board b s) p
    missing_place p start =
        sym (first_missing-is (board b s) p (max from (b + first_missing s o)) (omega (arith, start))
        (board_from b s (max from (b + first_missing s o)) (omega (arith, above)) ∙ lacks_place)
        (λ q low high. either (cases_lt q b) (λ l. board_below b s q l)
        (λ l. board_from b s q l ∙ at_place q high (omega (arith, start, low, l)))))

    -- the next missing range
    module _ (p limit end : ℕ) (start : from ≡ max p b) (ends : EndsHole s (first_missing s o) (Some end)) where
      pub end_fits : b + end < 2 ^ 64
      end_fits = omega (arith, fits end ends.1)

      pub hole_place : IsNextHole (board b s) p limit (min (max from (b + first_missing s o)) limit)
          (min limit (b + end))
      hole_place =
          let least = first_missing-le s o in
          let before : max from (b + first_missing s o) < b + end =
          omega (arith, is, above, ends.0, under end ends.1, least) in
          record {
            begins = ap (λ n. min n limit) (missing_place p start);
            order = omega (arith, before);
            within = omega arith;
            missing = λ q low high.
                board_from b s q (omega (arith, above, low, high))
                ∙ ends.2 (q - b) (omega (arith, low, high)) (omega (arith, low, high, above));
            ended = λ l.
                let e : min limit (b + end) ≡ b + end = omega (arith, l) in
                let at : b + end - b ≡ end = omega arith in
                ap (contains (board b s)) e ∙ board_from b s (b + end) (omega arith) ∙ ap (contains s) at ∙ ends.1;
          }

    pub open_place : (p limit : ℕ) → from ≡ max p b → EndsHole s (first_missing s o) None →
        IsNextHole (board b s) p limit (min (max from (b + first_missing s o)) limit) limit
    open_place p limit start none = record {
      begins = ap (λ n. min n limit) (missing_place p start);
      order = omega arith;
      within = omega arith;
      missing = λ q low high. board_from b s q (omega (arith, above, low, high))
          ∙ none (q - b) (omega (arith, low, high));
      ended = λ l. absurd (omega (arith, l));
    }

-- ---- how many positions aren't reported
counts_all : (s : Positions) (p n : ℕ) → missing_count s p n + present_count s p n ≡ n
counts_all s p zero = refl
counts_all s p (suc n) = let rest = counts_all s (p + 1) n in grind (arith, nat_tests)

present_more : (s : Positions) (p n m : ℕ) → present_count s p (n + m) ≡ present_count s p n + present_count s (p + n) m
present_more s p zero m =
    let all : 0 + m ≡ m = omega arith in
    let at : p ≡ p + 0 = omega arith in
    let same = ap (present_count s p) all ∙ ap (λ q. present_count s q m) at in
    omega (arith, same)
present_more s p (suc n) m =
    let more : suc n + m ≡ suc (n + m) = omega arith in
    let next : p + suc n ≡ p + 1 + n = omega arith in
    let rest = present_more s (p + 1) n m in
    omega (arith, ap (present_count s p) more, ap (λ q. present_count s q m) next, rest)

present_none : (s : Positions) (p n : ℕ) → ((q : ℕ) → p ≤ q → contains s q ≡ false) → present_count s p n ≡ 0
present_none s p zero off = refl
present_none s p (suc n) off =
    omega (arith, ap from_bool (off p (omega arith)), present_none s (p + 1) n (λ q l. off q (omega (arith, l))))

present_board : (b : ℕ) (s : Positions) (p n : ℕ) → b ≤ p → present_count (board b s) p n ≡ present_count s (p - b) n
present_board b s p zero l = refl
present_board b s p (suc n) l =
    let next : p + 1 - b ≡ p - b + 1 = omega (arith, l) in
    omega (
      arith,
      ap from_bool (board_from b s p l),
      present_board b s (p + 1) n (omega (arith, l)),
      ap (λ q. present_count s q n) next,
    )

-- of positions that are all in the set none is missing
missing_has : (s : Positions) (p n m : ℕ) → ((q : ℕ) → p ≤ q → q < p + n → contains s q ≡ true) →
    missing_count s p (n + m) ≡ missing_count s (p + n) m
missing_has s p zero m has =
    let all : 0 + m ≡ m = omega arith in
    let at : p ≡ p + 0 = omega arith in
    ap (missing_count s p) all ∙ ap (λ q. missing_count s q m) at
missing_has s p (suc n) m all =
    let more : suc n + m ≡ suc (n + m) = omega arith in
    let next : p + suc n ≡ p + 1 + n = omega arith in
    let rest = missing_has s (p + 1) n m (λ q low high. all q (omega (arith, low)) (omega (arith, high))) in
    omega (
      arith,
      ap (missing_count s p) more,
      ap (λ q. missing_count s q m) next,
      rest,
      ap (λ on. from_bool (not on)) (all p (omega arith) (omega arith)),
    )

-- those below the base aren't
missing_from_base : (b : ℕ) (s : Positions) (start end : ℕ) →
    missing_count (board b s) start (end - start) ≡ missing_count (board b s) (max start b) (end - max start b)
missing_from_base b s start end =
    let t = board b s in
    let below : (q : ℕ) → q < b → contains t q ≡ true = board_below b s in
    elim (cases_lt start b) [
      | inr l ↦ (let e : start ≡ max start b = omega (arith, l) in ap (λ q. missing_count t q (end - q)) e)
      | inl l ↦ elim (cases_lt b end) [
        | inl m ↦ (
            let sum : end - start ≡ b - start + (end - max start b) = omega (arith, l, m) in
            let at : start + (b - start) ≡ max start b = omega (arith, l) in
            ap (missing_count t start) sum
            ∙ missing_has t start (b - start) (end - max start b) (λ q low high. below q (omega (arith, high, l)))
            ∙ ap (λ q. missing_count t q (end - max start b)) at)
        | inr m ↦ (
            let sum : end - start ≡ end - start + 0 = omega arith in
            let none : 0 ≡ end - max start b = omega (arith, l, m) in
            ap (missing_count t start) sum
            ∙ missing_has t start (end - start) 0 (λ q low high. below q (omega (arith, low, high, m)))
            ∙ ap (missing_count t (max start b)) none)
      ]
    ]

-- offsets that are cut at top have as many
cut_count : (top : ℕ) (s : Positions) → ((q : ℕ) → top ≤ q → contains s q ≡ false) → (o n : ℕ) →
    present_count s o n ≡ present_count s (min o top) (min (o + n) top - min o top)
cut_count top s none o n = elim (cases_lt o top) [
  | inr l ↦ (
      let zeroth : 0 ≡ min (o + n) top - min o top = omega (arith, l) in
      present_none s o n (λ q m. none q (omega (arith, l, m))) ∙ ap (present_count s (min o top)) zeroth)
  | inl l ↦ (
      let kept = min (o + n) top - o in
      let sum : n ≡ kept + (n - kept) = omega (arith, l) in
      let at : o ≡ min o top = omega (arith, l) in
      let rest : present_count s (o + kept) (n - kept) ≡ 0 = elim (cases_lt top (o + n)) [
        | inl past ↦ present_none s (o + kept) (n - kept) (λ q m. none q (omega (arith, m, l, past)))
        | inr within ↦ (let zeroth : n - kept ≡ 0 = omega (arith, within) in ap (present_count s (o + kept)) zeroth)
      ] in
      let more = present_more s o kept (n - kept) in
      let first : present_count s o kept ≡ present_count s (min o top) (min (o + n) top - min o top) =
      λ i. present_count s (at i) (min (o + n) top - at i) in
      ap (present_count s o) sum ∙ omega (arith, more, rest, first))
]

-- as many as a range has positions from the base on, less those that were reported
pub missing_is : (b top : ℕ) (s : Positions) → ((q : ℕ) → top ≤ q → contains s q ≡ false) →
    (start end from o e count : ℕ) → from ≡ max start b → o ≡ min (from - b) top → e ≡ min (end - b) top →
    count ≡ present_count s o (e - o) →
    (count ≤ end - from) × (end - from - count ≡ missing_count (board b s) start (end - start))
missing_is b top s none start end from o e count begins is is' counted =
    let n = end - from in
    let cut = cut_count top s none (from - b) n in
    let size : min (from - b + n) top - min (from - b) top ≡ e - o = omega (arith, is, is', begins) in
    let same : present_count s (from - b) n ≡ count =
    cut ∙ (λ i. present_count s (sym is i) (size i)) ∙ sym counted in
    let on = present_board b s from n (omega (arith, begins)) in
    let all = counts_all (board b s) from n in
    let base = missing_from_base b s start end in
    let there = ap (λ q. missing_count (board b s) q (end - q)) begins in
    (omega (arith, same, on, all), omega (arith, same, on, all, base, there))

-- ---- up to where what isn't reported is lost, from the last run down
-- more runs tell more
tells_more : (d n : ℕ) (r : ℕ × ℕ) (rs : List (ℕ × ℕ)) → tell_loss d n rs ≡ true → tell_loss d n (r ∷ rs) ≡ true
tells_more d n r rs h = grind (arith, nat_tests)

tells_all : (d n k : ℕ) (rs : List (ℕ × ℕ)) → tell_loss d n (drop k rs) ≡ true → tell_loss d n rs ≡ true
tells_all d n zero rs h = h
tells_all d n (suc k) [] h = h
tells_all d n (suc k) (r ∷ rs) h = tells_more d n r rs (tells_all d n k rs h)

above_first : (r : ℕ × ℕ) (rs : List (ℕ × ℕ)) (p : ℕ) → r.0 ≤ p → runs_above (r ∷ rs) p ≡ runs_above rs p
above_first r rs p l = let here : nat_lt p r.0 ≡ false = grind (arith, nat_tests) in grind (arith, nat_tests)

-- the limit is the start of the last run that tells a loss with those after it
pub bound_at : (d n low : ℕ) (rs : List (ℕ × ℕ)) (k : ℕ) → IsRising low rs → k < length rs →
    tell_loss d n (drop k rs) ≡ true →
    tell_loss d n (drop (suc k) rs) ≡ false → (p : ℕ) → (p < start_at rs k) ↔ IsTrue (tell_loss d n (runs_above rs p))
bound_at d n low [] k h l tells few p = absurd (omega (arith, l))
bound_at d n low (r ∷ rs) zero h l tells few p = (
  λ below. ap (tell_loss d n) (all_above r.0 p (r ∷ rs) (omega arith, h.1, h.2) below) ∙ tells,
  λ lost. elim (cases_lt p r.0) [
    | inl below ↦ below
    | inr from ↦ absurd (both_ways _ (ap (tell_loss d n) (above_first r rs p from) ∙ tells_less d n rs p few) lost)
  ],
)
bound_at d n low (r ∷ rs) (suc k) h l tells few p =
    let rest = bound_at d n (r.1 + 1) rs k h.2 (omega (arith, l)) tells few p in
    let next = at_run (r.1 + 1) rs k h.2 (omega (arith, l)) in (
      λ below. elim (cases_lt p r.0) [
        | inl before ↦ ap (tell_loss d n) (all_above r.0 p (r ∷ rs) (omega arith, h.1, h.2) before)
            ∙ tells_all d n (suc k) (r ∷ rs) tells
        | inr from ↦ ap (tell_loss d n) (above_first r rs p from) ∙ rest.0 below
      ],
      λ lost. elim (cases_lt p r.0) [
        | inl before ↦ omega (arith, before, h.1, next.0)
        | inr from ↦ rest.1 (sym (ap (tell_loss d n) (above_first r rs p from)) ∙ lost)
      ],
    )

pub no_bound : (d n : ℕ) (rs : List (ℕ × ℕ)) → tell_loss d n rs ≡ false → (p : ℕ) →
    (p < 0) ↔ IsTrue (tell_loss d n (runs_above rs p))
no_bound d n rs few p = (λ l. absurd (omega (arith, l)), λ lost. absurd (both_ways _ (tells_less d n rs p few) lost))

sizes_drop : (k : ℕ) (rs : List (ℕ × ℕ)) → sizes (drop k rs) ≤ sizes rs
sizes_drop zero rs = omega arith
sizes_drop (suc k) [] = omega arith
sizes_drop (suc k) (r ∷ rs) = let rest = sizes_drop k rs in omega (arith, rest)

-- a scoreboard's runs, of which those after the run k are looked at
module _ (h : ScoreboardHead) (xs : List (ℕ × ℕ)) (sound : IsSoundBoard h xs) where
  abbrev all : List (ℕ × ℕ)
  all = maximal_runs (beyond (reported_by h xs))

  abbrev s : Positions
  s = set_of h.reported xs

  is_up : runs_shifted_up h.base (maximal_runs s) ≡ all
  is_up = runs_beyond h.base s sound.begins

  pub all_rise : IsRising 0 all
  all_rise = rising-maximal_runs (beyond (reported_by h xs))

  module _ (k start end : ℕ) (found : Some (start, end) ≡ slice_get (maximal_runs s) k) where
    within : k < length (maximal_runs s)
    within = slice_get_within (maximal_runs s) k (start, end) (sym found)

    item : get_or (maximal_runs s) k (0, 0) ≡ (start, end)
    item = get_or_from_slice_get (maximal_runs s) k (start, end) (0, 0) (sym found)

    count : length (maximal_runs s) ≡ length all
    count = sym (length-up h.base (maximal_runs s)) ∙ ap length is_up

    pub among : k < length all
    among = omega (arith, within, count)

    at : get_or all k (0, 0) ≡ (h.base + start, h.base + end)
    at = ap (λ rs. get_or rs k (0, 0)) (sym is_up) ∙ get_or-up h.base (maximal_runs s) k within
        ∙ ap (λ (r : ℕ × ℕ). (h.base + r.0, h.base + r.1)) item

    pub start_is : start_at all k ≡ h.base + start
    start_is = ap (λ (r : ℕ × ℕ). r.0) at

    pub one_more : drop k all ≡ (h.base + start, h.base + end) ∷ drop (suc k) all
    one_more = drop-cons all k (0, 0) among ∙ ap (λ r. r ∷ drop (suc k) all) at

    pub start_fits : start < end → h.base + start < 2 ^ 64
    start_fits some =
        let run = subst (IsMaximalRun s) item
        (All-get_or (IsMaximalRun s) (maximal_runs s) k (0, 0) within (are_maximal_runs s).maximal) in
        omega (arith, sound.fits start (run.inside start (omega arith) some))

  pub numbered : h.reported.used ≡ length all
  numbered = as_many h xs sound

  pub stored : (k : ℕ) → k < h.reported.used → slice_get (maximal_runs s) k ≡ Some (get_or (maximal_runs s) k (0, 0))
  stored k l = grind (arith, nat_tests, common_steps, length-up, slice_get-get_or, numbered, is_up)

  pub sizes_all : (k : ℕ) → sizes (drop k all) < 2 ^ 64
  sizes_all k =
      let few = sizes_fit h.base s sound.fits in
      let same = number_of (beyond (reported_by h xs)) in
      omega (arith, sizes_drop k all, few, number_beyond h.base s sound.begins, same)

-- what is missing, by the offsets of a scoreboard
pub ruleset searches = (missing_fits, missing_place, missing_is, none_from, position_fits)
