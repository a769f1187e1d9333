-- The runs that are listed newest first, by one call and by several, and how many positions of a range pass a test.
use Rattle.std.proofs.lemmas.Bool.Decides.{nat_tests}
use Rattle.net_receiver.proofs.Words.{◌≡◌, ◌⊎◌, inl, inr, ℕ, ◌+◌, ◌-◌, ◌<◌, ◌≤◌, ◌||◌, Bool, true, false, cond, List}
use Rattle.net_receiver.proofs.Words.{[], ◌∷◌, ◌++◌, length, map, take, Some, None, All, slice_get, is_some, refl, sym}
use Rattle.net_receiver.proofs.Words.{ap, subst, ◌∙◌, arith, ⊎_elim, leb-true, le-leb, le_refl, take_all, length-append}
use Rattle.net_receiver.proofs.Words.{append_assoc, suc, unwrap_or, zero, min, max, ◌&&◌, nat_le, nat_lt, le-ltb, drop}
use Rattle.net_receiver.proofs.Words.{length-take, length-drop, slice_get_within, count_by, find, list_any}
use Rattle.net_receiver.proofs.Words.{range_with_len, both_ways, and_parts, and_from, cases_Bool, cases_lt, cond-true}
use Rattle.net_receiver.proofs.Words.{cond-false, ltb-true, lt-ltb, or_left, or_right, or_cases, false_from_ne_true}
use Rattle.net_receiver.proofs.Words.{lt-leb, length-map, All-nil, All-cons, All-head, All-tail, All-append}
use Rattle.net_receiver.proofs.Words.{sum_by-cons, Positions, contains, maximal_runs, lies_in, IsMaximalRun, run_at}
use Rattle.net_receiver.proofs.Words.{newest_runs, CommandValue, IsSound, next_position, receiver_after_command}
use Rattle.net_receiver.proofs.Words.{receiver_after_commands, HasByteAt, ReceiverState}
use Rattle.std.proofs.lemmas.Option.{slice_get-map}
use Rattle.std.specs.Option.{option_to_list, option_map}
use Rattle.std.proofs.lemmas.Bool.{true_from_ne_false}
use Rattle.std.proofs.lemmas.List.{take-append-le, append-nil}
use Rattle.std.proofs.lemmas.List.Folds.{list_any-append}
use Rattle.std.proofs.lemmas.List.Sums.{sum_by-append}
use Rattle.net_assembler.proofs.Runs.{are_maximal_runs}
use Rattle.net_receiver.specs.{with_run, runs_of, starts, AreNewestRuns, NewestRunsAreListed, IsListedBy, HasOneOf}
use Rattle.net_receiver.specs.{with_starts}
use Rattle.net_receiver.specs.NewestRuns.{Calls, recent_after, StayTogether, AllStayTogether, IsHeldSince}
use Rattle.net_receiver.specs.NewestRuns.{NewestAreFirst, HeldStayTogether}
use Rattle.net_receiver.proofs.Sets.{slice_get-take, contains-domain}
use Rattle.net_receiver.proofs.OneStream.{has_byte_stays}
use Rattle.net_receiver.proofs.Theorems.{sound_stays}
use Rattle.std.specs.FinMap as fin

-- ---- The runs that are listed newest first: maximal ones, each once, in the order of the positions.
-- ---- a list and a test
module _ {X : Type 0} (t : X → Bool) (P : X → Type 0) where
  -- the first element that passes
  pub found : (xs : List X) → All P xs → list_any t xs ≡ true → (x : X) × (find t xs ≡ Some x) × (t x ≡ true) × P x
  found [] all h = absurd (both_ways false refl h)
  found (x ∷ xs) all h =
      ⊎_elim (λ (e : t x ≡ true). (x, cond-true _ _ _ e, e, All-head P x xs all))
      (λ (e : t x ≡ false).
      let rest = found xs (All-tail P x xs all) (sym (ap (λ c. c || list_any t xs) e) ∙ h) in
      (rest.0, cond-false _ _ _ e ∙ rest.1, rest.2, rest.3))
      (cases_Bool (t x))

module _ {X : Type 0} (t : X → Bool) where
  -- none passes
  pub none_found : (xs : List X) → list_any t xs ≡ false → (find t xs ≡ None) × (count_by t xs ≡ 0)
  none_found [] h = (refl, refl)
  none_found (x ∷ xs) h =
      let both = or_false (t x) (list_any t xs) h in
      let rest = none_found xs both.1 in
      let size = sum_by-cons (λ y. cond (t y) 1 0) x xs ∙ ap (λ b. cond b 1 0 + count_by t xs) both.0 in
      (cond-false _ _ _ both.0 ∙ rest.0, omega (arith, rest.1, size))
    where
      or_false : (a b : Bool) → (a || b) ≡ false → (a ≡ false) × (b ≡ false)
      or_false false false e = (refl, refl)
      or_false false true e = (refl, e)
      or_false true b e = absurd (both_ways true e refl)

  some_counted : (xs : List X) → list_any t xs ≡ true → 0 < count_by t xs
  some_counted [] h = absurd (both_ways false refl h)
  some_counted (x ∷ xs) h =
      ⊎_elim (λ (e : t x ≡ true).
      let size = sum_by-cons (λ y. cond (t y) 1 0) x xs ∙ ap (λ b. cond b 1 0 + count_by t xs) e in
      omega (arith, size))
      (λ (e : t x ≡ false).
      let size = sum_by-cons (λ y. cond (t y) 1 0) x xs ∙ ap (λ b. cond b 1 0 + count_by t xs) e in
      let rest = some_counted xs (sym (ap (λ c. c || list_any t xs) e) ∙ h) in
      omega (arith, size, rest))
      (cases_Bool (t x))

  counted_more : (xs : List X) (y : X) → count_by t (xs ++ y ∷ []) ≡ count_by t xs + cond (t y) 1 0
  counted_more xs y =
      omega (arith, sum_by-append (λ z. cond (t z) 1 0) xs (y ∷ []), sum_by-cons (λ z. cond (t z) 1 0) y [])

  -- where one is that passes
  pub listed_at : (xs : List X) → list_any t xs ≡ true → (i : ℕ) × (x : X) × (slice_get xs i ≡ Some x) × (t x ≡ true)
  listed_at [] h = absurd (both_ways false refl h)
  listed_at (x ∷ xs) h =
      ⊎_elim (λ (e : t x ≡ true). (0, x, refl, e))
      (λ (e : list_any t xs ≡ true). (let rest = listed_at xs e in (suc rest.0, rest.1, rest.2, rest.3)))
      (or_cases (t x) (list_any t xs) h)

-- ---- a list after another
module _ {X : Type 0} where
  pub at-left : (xs ys : List X) (i : ℕ) (x : X) → slice_get xs i ≡ Some x → slice_get (xs ++ ys) i ≡ Some x
  at-left [] ys i x e = absurd (both_ways false refl (ap is_some e))
  at-left (z ∷ xs) ys zero x e = e
  at-left (z ∷ xs) ys (suc i) x e = at-left xs ys i x e

  pub at-front : (xs ys : List X) (i : ℕ) (x : X) → i < length xs → slice_get (xs ++ ys) i ≡ Some x →
      slice_get xs i ≡ Some x
  at-front [] ys i x l e = absurd (omega (arith, l))
  at-front (z ∷ xs) ys zero x l e = e
  at-front (z ∷ xs) ys (suc i) x l e = at-front xs ys i x (omega (arith, l)) e

  at-end : (xs : List X) (y : X) → slice_get (xs ++ y ∷ []) (length xs) ≡ Some y
  at-end [] y = refl
  at-end (x ∷ xs) y = at-end xs y

  at-either : (xs : List X) (y : X) (i : ℕ) (x : X) → slice_get (xs ++ y ∷ []) i ≡ Some x →
      (slice_get xs i ≡ Some x) ⊎ ((i ≡ length xs) × (x ≡ y))
  at-either [] y zero x e = inr (refl, sym (ap (λ o. unwrap_or o y) e))
  at-either [] y (suc i) x e = absurd (both_ways false refl (ap is_some e))
  at-either (z ∷ xs) y zero x e = inl e
  at-either (z ∷ xs) y (suc i) x e =
      ⊎_elim (λ old. inl old) (λ (last : (i ≡ length xs) × (x ≡ y)). inr (ap suc last.0, last.1)) (at-either xs y i x e)

abbrev Runs : Type 0
Runs = List (ℕ × ℕ)

pub lies : (p : ℕ) (r : ℕ × ℕ) → lies_in p r ≡ true → (r.0 ≤ p) × (p < r.1)
lies p r h = (let both = and_parts _ _ h in (leb-true r.0 p both.0, ltb-true p r.1 both.1))

pub lies_from : (p : ℕ) (r : ℕ × ℕ) → r.0 ≤ p → p < r.1 → lies_in p r ≡ true
lies_from p r a b = and_from _ _ (le-leb r.0 p a) (lt-ltb p r.1 b)

module _ (s : Positions) where
  abbrev Max : ℕ × ℕ → Type 0
  Max = IsMaximalRun s

  -- two maximal runs that share a position have the same ones
  starts_from : (a b : ℕ × ℕ) → Max a → Max b → (q : ℕ) → a.0 ≤ q → q < a.1 → b.0 ≤ q → q < b.1 → a.0 ≤ b.0
  starts_from a b m n q a0 a1 b0 b1 = grind (arith, nat_tests)

  ends_by : (a b : ℕ × ℕ) → Max a → Max b → (q : ℕ) → a.0 ≤ q → q < a.1 → b.0 ≤ q → q < b.1 → b.1 ≤ a.1
  ends_by a b m n q a0 a1 b0 b1 = grind (arith, nat_tests)

  pub share : (a b : ℕ × ℕ) → Max a → Max b → (p q : ℕ) → lies_in q a ≡ true → lies_in q b ≡ true →
      lies_in p a ≡ true → lies_in p b ≡ true
  share a b m n p q qa qb pa = grind (arith, nat_tests, lies, starts_from, ends_by, lies_from)

  shares : (rs : Runs) → All Max rs → (a : ℕ × ℕ) → Max a → (p q : ℕ) → lies_in q a ≡ true → lies_in p a ≡ true →
      list_any (lies_in q) rs ≡ true → list_any (lies_in p) rs ≡ true
  shares [] all a m p q qa pa h = h
  shares (r ∷ rs) all a m p q qa pa h =
      ⊎_elim (λ e. or_left _ _ (share a r m (All-head Max r rs all) p q qa e pa))
      (λ e. or_right _ _ (shares rs (All-tail Max r rs all) a m p q qa pa e))
      (or_cases (lies_in q r) (list_any (lies_in q) rs) h)

  -- ---- one more position
  module _ (all : All Max (maximal_runs s)) (has : (p : ℕ) → contains s p ≡ true →
      list_any (lies_in p) (maximal_runs s) ≡ true) (k : ℕ) where
    -- the list stays, or grows by the run of the position
    by_case : (P : Runs → Type 0) (rs : Runs) (p : ℕ) → length rs ≤ k → (list_any (lies_in p) rs ≡ true → P rs) →
        (length rs ≡ k → P rs) → (list_any (lies_in p) (maximal_runs s) ≡ false → P rs) →
        ((r : ℕ × ℕ) → Max r → lies_in p r ≡ true → list_any (lies_in p) rs ≡ false → length rs < k →
        P (rs ++ r ∷ [])) →
        P (with_run k s rs p)
    by_case P rs p few listed full absent more =
        ⊎_elim (λ (e : list_any (lies_in p) rs ≡ true). subst P (sym (cond-true _ _ _ e)) (listed e))
        (λ (e : list_any (lies_in p) rs ≡ false). subst P (sym (cond-false _ _ _ e))
        (⊎_elim
        (λ (l : length rs < k).
        ⊎_elim
        (λ (h : list_any (lies_in p) (maximal_runs s) ≡ true).
        let r = found (lies_in p) Max (maximal_runs s) all h in
        let size = length-append rs (r.0 ∷ []) in
        subst P (sym (ap (λ o. take k (rs ++ option_to_list o)) r.1
        ∙ take_all k (rs ++ r.0 ∷ []) (omega (arith, size)))) (more r.0 r.3 r.2 e l))
        (λ (h : list_any (lies_in p) (maximal_runs s) ≡ false).
        subst P (sym (ap (λ o. take k (rs ++ option_to_list o)) (none_found (lies_in p) (maximal_runs s) h).0
        ∙ ap (take k) (append-nil rs) ∙ take_all k rs few)) (absent h))
        (cases_Bool (list_any (lies_in p) (maximal_runs s))))
        (λ (l : k ≤ length rs).
        subst P (sym (take-append-le k rs (option_to_list (run_at s p)) l ∙ take_all k rs few)) (full (omega arith)))
        (cases_lt (length rs) k)))
        (cases_Bool (list_any (lies_in p) rs))

    -- what stays true of the list
    record Good (rs : Runs) : Type 0 where
      maximal : All Max rs
      few : length rs ≤ k
      once : (p : ℕ) → count_by (lies_in p) rs ≤ 1

    good : (rs : Runs) (p : ℕ) → Good rs → Good (with_run k s rs p)
    good rs p g =
        by_case Good rs p g.few (λ _. g) (λ _. g) (λ _. g) (λ r m at none l.
        record {
          maximal = All-append Max rs (r ∷ []) g.maximal (All-cons Max r [] m (All-nil Max));
          few = omega (arith, length-append rs (r ∷ []));
          once = λ q.
              ⊎_elim
              (λ (e : lies_in q r ≡ true).
              let other = false_from_ne_true (list_any (lies_in q) rs)
              (λ yes. both_ways _ none (shares rs g.maximal r m p q e at yes)) in
              let size : count_by (lies_in q) (rs ++ r ∷ []) ≡ count_by (lies_in q) rs + 1 =
              counted_more (lies_in q) rs r ∙ ap (λ b. count_by (lies_in q) rs + cond b 1 0) e in
              omega (arith, size, (none_found (lies_in q) rs other).1))
              (λ (e : lies_in q r ≡ false).
              let size : count_by (lies_in q) (rs ++ r ∷ []) ≡ count_by (lies_in q) rs + 0 =
              counted_more (lies_in q) rs r ∙ ap (λ b. count_by (lies_in q) rs + cond b 1 0) e in
              omega (arith, size, g.once q))
              (cases_Bool (lies_in q r));
        })

    all_good : (rs : Runs) (ps : List ℕ) → Good rs → Good (runs_of k s rs ps)
    all_good rs [] g = g
    all_good rs (p ∷ ps) g = all_good (with_run k s rs p) ps (good rs p g)

    -- a position is in one that is listed, or there is no more room
    abbrev Covers : Runs → ℕ → Type 0
    Covers rs p = (list_any (lies_in p) rs ≡ true) ⊎ (length rs ≡ k)

    covers_on : (rs : Runs) (p q : ℕ) → length rs ≤ k → Covers rs q → Covers (with_run k s rs p) q
    covers_on rs p q few c =
        by_case (λ l. Covers l q) rs p few (λ _. c) (λ _. c) (λ _. c) (λ r m at none l.
        ⊎_elim (λ e. inl (list_any-append (lies_in q) rs (r ∷ []) ∙ or_left _ _ e))
        (λ e. absurd (omega (arith, e, l))) c)

    covers_all : (rs : Runs) (ps : List ℕ) (q : ℕ) → Good rs → Covers rs q → Covers (runs_of k s rs ps) q
    covers_all rs [] q g c = c
    covers_all rs (p ∷ ps) q g c = covers_all (with_run k s rs p) ps q (good rs p g) (covers_on rs p q g.few c)

    covers_new : (rs : Runs) (p : ℕ) → length rs ≤ k → contains s p ≡ true → Covers (with_run k s rs p) p
    covers_new rs p few held =
        by_case (λ l. Covers l p) rs p few (λ e. inl e) (λ e. inr e) (λ e. absurd (both_ways _ e (has p held)))
        (λ r m at none l.
        inl (list_any-append (lies_in p) rs (r ∷ []) ∙ or_right _ _ (or_left _ _ at)))

    -- the runs of all starts cover what these runs have
    covers_runs : (rs ms : Runs) → Good rs → All Max ms → (q : ℕ) → list_any (lies_in q) ms ≡ true →
        Covers (runs_of k s rs (map (λ r. r.0) ms)) q
    covers_runs rs [] g ok q h = absurd (both_ways false refl h)
    covers_runs rs (m ∷ ms) g ok q h =
        let max = All-head Max m ms ok in
        let next = good rs m.0 g in
        let some = max.some in
        ⊎_elim
        (λ (e : lies_in q m ≡ true).
        covers_all (with_run k s rs m.0) (map (λ r. r.0) ms) q next
        (⊎_elim (λ c. inl (shares (with_run k s rs m.0) next.maximal m max q m.0 (lies_from m.0 m (le_refl _) some) e
        c)) (λ c. inr c)
        (covers_new rs m.0 g.few (max.inside m.0 (le_refl _) some))))
        (λ (e : list_any (lies_in q) ms ≡ true). covers_runs (with_run k s rs m.0) ms next (All-tail Max m ms ok) q e)
        (or_cases (lies_in q m) (list_any (lies_in q) ms) h)

    -- what is true of the list and of the positions that it was made from
    record Ordered (qs : List ℕ) (rs : Runs) : Type 0 where
      short : length rs ≤ length qs
      named : (i : ℕ) (r : ℕ × ℕ) → slice_get rs i ≡ Some r → HasOneOf qs (length qs) r
      covers : (b q : ℕ) → slice_get qs b ≡ Some q → contains s q ≡ true → Covers rs q
      newest : (b q : ℕ) → slice_get qs b ≡ Some q → contains s q ≡ true → b < k → IsListedBy rs b q
      order : (i j b q : ℕ) (x y : ℕ × ℕ) → i < j → slice_get rs i ≡ Some x → slice_get rs j ≡ Some y →
          slice_get qs b ≡ Some q → lies_in q y ≡ true → HasOneOf qs b x

    module _ (rs : Runs) (qs : List ℕ) (p : ℕ) (g : Good rs) (o : Ordered qs rs) where
      abbrev all_qs : List ℕ
      all_qs = qs ++ p ∷ []

      -- a run that is named stays so
      still : (n m : ℕ) (r : ℕ × ℕ) → n ≤ m → HasOneOf qs n r → HasOneOf all_qs m r
      still n m r l is = (is.0, is.1, omega (arith, is.2), at-left qs (p ∷ []) is.0 is.1 is.3, is.4)

      -- the run at i, before that of the position at b
      old_order : (i j b q : ℕ) (x y : ℕ × ℕ) → i < j → slice_get rs i ≡ Some x → slice_get rs j ≡ Some y →
          slice_get all_qs b ≡ Some q → lies_in q y ≡ true → HasOneOf all_qs b x
      old_order i j b q x y l at at' is in_y =
          ⊎_elim (λ (old : slice_get qs b ≡ Some q). still b b x (le_refl b) (o.order i j b q x y l at at' old in_y))
          (λ (last : (b ≡ length qs) × (q ≡ p)). still (length qs) b x (omega (arith, last.0)) (o.named i x at))
          (at-either qs p b q is)

      same : (contains s p ≡ true → Covers rs p) →
          (contains s p ≡ true → length qs < k → IsListedBy rs (length qs) p) → Ordered all_qs rs
      same covered listed =
          let size = length-append qs (p ∷ []) in
          record {
            short = omega (arith, o.short, size);
            named = λ i r at. still (length qs) (length all_qs) r (omega (arith, size)) (o.named i r at);
            covers = λ b q is held.
                ⊎_elim (λ (old : slice_get qs b ≡ Some q). o.covers b q old held)
                (λ (last : (b ≡ length qs) × (q ≡ p)). subst (λ t. contains s t ≡ true →
                Covers rs t) (sym last.1) covered held)
                (at-either qs p b q is);
            newest = λ b q is held l.
                ⊎_elim (λ (old : slice_get qs b ≡ Some q). o.newest b q old held l)
                (λ (last : (b ≡ length qs) × (q ≡ p)).
                let found = listed (ap (contains s) (sym last.1) ∙ held) (omega (arith, last.0)) in (
                  found.0,
                  found.1,
                  omega (arith, found.2, last.0),
                  found.3,
                  ap (λ t. lies_in t found.1) last.1 ∙ found.4,
                ))
                (at-either qs p b q is);
            order = old_order;
          }

      more : (r : ℕ × ℕ) → Max r → lies_in p r ≡ true → list_any (lies_in p) rs ≡ false → length rs < k →
          Ordered all_qs (rs ++ r ∷ [])
      more r m at none l =
          let size = length-append qs (p ∷ []) in
          let sizes = length-append rs (r ∷ []) in
          record {
            short = omega (arith, o.short, size, sizes);
            named = λ i x is.
                ⊎_elim (λ (old : slice_get rs i ≡ Some x). still (length qs) (length all_qs) x (omega (arith, size))
                (o.named i x old))
                (λ (last : (i ≡ length rs) × (x ≡ r)).
                (length qs, p, omega (arith, size), at-end qs p, ap (lies_in p) last.1 ∙ at))
                (at-either rs r i x is);
            covers = λ b q is held.
                ⊎_elim (λ (old : slice_get qs b ≡ Some q).
                ⊎_elim (λ e. inl (list_any-append (lies_in q) rs (r ∷ []) ∙ or_left _ _ e))
                (λ e. absurd (omega (arith, e, l))) (o.covers b q old held))
                (λ (last : (b ≡ length qs) × (q ≡ p)).
                inl (list_any-append (lies_in q) rs (r ∷ [])
                ∙ or_right _ _ (or_left _ _ (ap (λ t. lies_in t r) last.1 ∙ at))))
                (at-either qs p b q is);
            newest = λ b q is held few.
                ⊎_elim (λ (old : slice_get qs b ≡ Some q).
                let found = o.newest b q old held few in
                (found.0, found.1, found.2, at-left rs (r ∷ []) found.0 found.1 found.3, found.4))
                (λ (last : (b ≡ length qs) × (q ≡ p)).
                (length rs, r, omega (arith, o.short, last.0), at-end rs r, ap (λ t. lies_in t r) last.1 ∙ at))
                (at-either qs p b q is);
            order = λ i j b q x y less is is' at_b in_y.
                ⊎_elim
                (λ (old : slice_get rs j ≡ Some y).
                let within = slice_get_within rs j y old in
                ⊎_elim (λ (first : slice_get rs i ≡ Some x). old_order i j b q x y less first old at_b in_y)
                (λ (last : (i ≡ length rs) × (x ≡ r)). absurd (omega (arith, within, less, last.0)))
                (at-either rs r i x is))
                (λ (last : (j ≡ length rs) × (y ≡ r)).
                ⊎_elim
                (λ (first : slice_get rs i ≡ Some x).
                let in_r = ap (lies_in q) (sym last.1) ∙ in_y in
                ⊎_elim
                (λ (old : slice_get qs b ≡ Some q).
                let there = lies q r in_r in
                ⊎_elim (λ e. absurd (both_ways _ none (shares rs g.maximal r m p q in_r at e)))
                (λ e. absurd (omega (arith, e, l)))
                (o.covers b q old (m.inside q there.0 there.1)))
                (λ (new : (b ≡ length qs) × (q ≡ p)). still (length qs) b x (omega (arith, new.0)) (o.named i x first))
                (at-either qs p b q at_b))
                (λ (both : (i ≡ length rs) × (x ≡ r)). absurd (omega (arith, less, last.0, both.0)))
                (at-either rs r i x is))
                (at-either rs r j y is');
          }

      one_more : Ordered all_qs (with_run k s rs p)
      one_more =
          by_case (Ordered all_qs) rs p g.few
          (λ e. same (λ _. inl e) (λ _ l.
          let found = listed_at (lies_in p) rs e in (
            found.0,
            found.1,
            omega (arith, o.short, slice_get_within rs found.0 found.1 found.2),
            found.2,
            found.3,
          )))
          (λ e. same (λ _. inr e) (λ _ l. absurd (omega (arith, o.short, e, l))))
          (λ e. same (λ held. absurd (both_ways _ e (has p held))) (λ held l. absurd (both_ways _ e (has p held))))
          more

    all_ordered : (rs : Runs) (qs ps : List ℕ) → Good rs → Ordered qs rs → Ordered (qs ++ ps) (runs_of k s rs ps)
    all_ordered rs qs [] g o = subst (λ l. Ordered l rs) (sym (append-nil qs)) o
    all_ordered rs qs (p ∷ ps) g o =
        subst (λ l. Ordered l (runs_of k s (with_run k s rs p) ps)) (append_assoc qs (p ∷ []) ps)
        (all_ordered (with_run k s rs p) (qs ++ p ∷ []) ps (good rs p g) (one_more rs qs p g o))

    empty_ordered : Ordered [] []
    empty_ordered = record {
      short = omega arith;
      named = λ i r e. absurd (both_ways false refl (ap is_some e));
      covers = λ b q e. absurd (both_ways false refl (ap is_some e));
      newest = λ b q e. absurd (both_ways false refl (ap is_some e));
      order = λ i j b q x y l e. absurd (both_ways false refl (ap is_some e));
    }

    empty_good : Good []
    empty_good = record { maximal = All-nil Max; few = omega arith; once = λ p. omega arith }

    pub newest_are : (ps : List ℕ) → AreNewestRuns k s ps (newest_runs k s ps)
    newest_are ps =
        let early = all_good [] ps empty_good in
        let g = all_good (runs_of k s [] ps) (starts s) early in
        let o = all_ordered (runs_of k s [] ps) ps (starts s) early (all_ordered [] [] ps empty_good empty_ordered) in
        record {
          maximal = g.maximal;
          few = g.few;
          once = g.once;
          complete = λ p held.
              ⊎_elim
              (λ e. inl (omega (arith, g.once p, some_counted (lies_in p) (newest_runs k s ps) e)))
              (λ e. inr e)
              (covers_runs (runs_of k s [] ps) (maximal_runs s) early all p (has p held));
          newest = λ b p is. o.newest b p (at-left ps (starts s) b p is);
          order = λ i j b p q r l at at' is in_r.
              let found = o.order i j b p q r l at at' (at-left ps (starts s) b p is) in_r in (
                found.0,
                found.1,
                found.2,
                at-front ps (starts s) found.0 found.1 (omega (arith, found.2, slice_get_within ps b p is))
                    found.3,
                found.4,
              );
        }

-- where k runs are listed, no other is
full_with : (k : ℕ) (s : Positions) (listed : Runs) (p : ℕ) → length listed ≡ k → with_run k s listed p ≡ listed
full_with k s listed p full = grind (arith, nat_tests, cases_Bool, cond-false, cond-true, lies_in, list_any, run_at, take-append-le, take_all)

pub full_list : (k : ℕ) (s : Positions) (listed : Runs) (ps : List ℕ) → length listed ≡ k →
    runs_of k s listed ps ≡ listed
full_list k s listed [] full = refl
full_list k s listed (p ∷ ps) full = ap (λ l. runs_of k s l ps) (full_with k s listed p full)
    ∙ full_list k s listed ps full

pub newest_runs_are_listed : NewestRunsAreListed
newest_runs_are_listed k s ps =
    newest_are s (are_maximal_runs s).maximal (λ p held. by p ((are_maximal_runs s).complete p held)) k ps
  where
    by : (p : ℕ) → count_by (lies_in p) (maximal_runs s) ≡ 1 → list_any (lies_in p) (maximal_runs s) ≡ true
    by p e = true_from_ne_false _
        (λ no. (let none = (none_found (lies_in p) (maximal_runs s) no).1 in absurd (omega (arith, e, none))))

-- ---- How many positions of a range pass a test.
module _ (g : ℕ → Bool) where
  abbrev pub count : ℕ → ℕ → ℕ
  count a n = count_by g (range_with_len a n)

  pub count_more : (a n : ℕ) → count a (suc n) ≡ cond (g a) 1 0 + count (a + 1) n
  count_more a n = sum_by-cons (λ q. cond (g q) 1 0) a (range_with_len (a + 1) n)

  pub count_split : (a x y : ℕ) → count a (x + y) ≡ count a x + count (a + x) y
  count_split a zero y =
      let e : a ≡ a + 0 = omega arith in
      let h : 0 + y ≡ y = omega arith in
      let none : count a 0 ≡ 0 = refl in
      let same : count a (0 + y) ≡ count (a + 0) y = (λ i. count (e i) (h i)) in
      omega (arith, none, same)
  count_split a (suc x) y =
      let e : suc x + y ≡ suc (x + y) = omega arith in
      let h : a + 1 + x ≡ a + suc x = omega arith in
      let rest = count_split (a + 1) x y ∙ ap (λ b. count (a + 1) x + count b y) h in
      let whole = ap (count a) e ∙ count_more a (x + y) in
      let part = count_more a x in
      omega (arith, rest, whole, part)

  pub count_none : (a n : ℕ) → ((q : ℕ) → a ≤ q → q < a + n → g q ≡ false) → count a n ≡ 0
  count_none a zero all = refl
  count_none a (suc n) all =
      let here : count a (suc n) ≡ 0 + count (a + 1) n = count_more a n
      ∙ ap (λ b. cond b 1 0 + count (a + 1) n) (all a (omega arith) (omega arith)) in
      let rest = count_none (a + 1) n (λ q l h. all q (omega arith) (omega arith)) in
      omega (arith, here, rest)

count_same : (f g : ℕ → Bool) (a b n : ℕ) → ((i : ℕ) → i < n → f (a + i) ≡ g (b + i)) → count f a n ≡ count g b n
count_same f g a b zero same = refl
count_same f g a b (suc n) same =
    let ea : a + 0 ≡ a = omega arith in
    let eb : b + 0 ≡ b = omega arith in
    let here : f a ≡ g b = ap f (sym ea) ∙ same 0 (omega arith) ∙ ap g eb in
    let rest = count_same f g (a + 1) (b + 1) n (λ i l.
    let fa : a + 1 + i ≡ a + (i + 1) = omega arith in
    let fb : b + (i + 1) ≡ b + 1 + i = omega arith in
    ap f fa ∙ same (i + 1) (omega arith) ∙ ap g fb) in
    count_more f a n ∙ (λ k. cond (here k) 1 0 + rest k) ∙ sym (count_more g b n)

-- those from `low` on and below `high`
pub clipped : (g : ℕ → Bool) (low high p n : ℕ) →
    count (λ q. nat_le low q && nat_lt q high && g q) p n ≡ count g (max low p) (min high (p + n) - max low p)
clipped g low high p n =
    let h : ℕ → Bool = λ q. nat_le low q && nat_lt q high && g q in
    let x = min (max low p - p) n in
    let y = min high (p + n) - max low p in
    let z = n - x - y in
    let whole : n ≡ x + (y + z) = omega arith in
    let first : count h p x ≡ 0 =
    count_none h p x (λ q l m. off (nat_le low q) (nat_lt q high) (g q) (inl (lt-leb low q (omega arith)))) in
    let last : count h (p + x + y) z ≡ 0 =
    count_none h (p + x + y) z
    (λ q l m. off (nat_le low q) (nat_lt q high) (g q) (inr (le-ltb q high (omega arith)))) in
    let middle : count h (p + x) y ≡ count g (max low p) y = count_same h g (p + x) (max low p) y (λ i l.
    let at : p + x + i ≡ max low p + i = omega arith in
    ap h at ∙ within (nat_le low (max low p + i)) (nat_lt (max low p + i) high) (g (max low p + i))
    (le-leb low (max low p + i) (omega arith)) (lt-ltb (max low p + i) high (omega arith))) in
    let cut = count_split h p x (y + z) in
    let cut' = count_split h (p + x) y z in
    let all = ap (count h p) whole in
    omega (arith, first, last, middle, cut, cut', all)
  where
    off : (a b c : Bool) → (a ≡ false) ⊎ (b ≡ false) → (a && b && c) ≡ false
    off false b c e = refl
    off true false c e = refl
    off true true c e = ⊎_elim (λ h. absurd (both_ways true h refl)) (λ h. absurd (both_ways true h refl)) e

    within : (a b c : Bool) → a ≡ true → b ≡ true → (a && b && c) ≡ c
    within true true c e f = refl
    within true false c e f = absurd (both_ways false refl f)
    within false b c e f = absurd (both_ways false refl e)

-- ---- Several calls of `newest_runs`: the runs of the positions that were asked for last are listed first.
-- ---- elements of lists
pub there : {X : Type 0} (xs : List X) (i : ℕ) → i < length xs → (x : X) × (slice_get xs i ≡ Some x)
there [] i l = absurd (omega (arith, l))
there (x ∷ xs) zero l = (x, refl)
there (x ∷ xs) (suc i) l = there xs i (omega (arith, l))

all_at : {X : Type 0} (P : X → Type 0) (xs : List X) (i : ℕ) (x : X) → All P xs → slice_get xs i ≡ Some x → P x
all_at P [] i x all is = absurd (both_ways false refl (ap is_some is))
all_at P (y ∷ xs) zero x all is = subst P (ap (λ o. unwrap_or o y) is) (All-head P y xs all)
all_at P (y ∷ xs) (suc i) x all is = all_at P xs i x (All-tail P y xs all) is

-- ---- the positions that a call leaves
starts_size : (ps : List ℕ) (rs : List (ℕ × ℕ)) → length (with_starts ps rs) ≡ length ps
starts_size ps rs = grind (arith, nat_tests, length-append, length-take, length-map, length-drop)

start_at : (ps : List ℕ) (rs : List (ℕ × ℕ)) (i : ℕ) (r : ℕ × ℕ) → i < length ps → slice_get rs i ≡ Some r →
    slice_get (with_starts ps rs) i ≡ Some r.0
start_at ps rs i r l is =
    at-left (take (length ps) (map (λ q. q.0) rs)) (drop (length rs) ps) i r.0
    (slice_get-take (length ps) (map (λ q. q.0) rs) i ∙ cond-true _ _ _ (lt-ltb i (length ps) l)
    ∙ slice_get-map (λ q. q.0) rs i ∙ ap (option_map (λ q. q.0)) is)

recent_size : (k : ℕ) (ps : List ℕ) (calls : Calls) → length (recent_after k ps calls) ≡ length ps
recent_size k ps [] = refl
recent_size k ps (call ∷ calls) =
    starts_size (recent_after k ps calls) (newest_runs k call.0 (call.1 ∷ recent_after k ps calls))
    ∙ recent_size k ps calls

-- ---- what stays together is in one run afterwards
module _ (s t : Positions) (together : StayTogether s t) (r m : ℕ
    × ℕ) (max : IsMaximalRun s r) (max' : IsMaximalRun t m) where
  in_run : (p q : ℕ) → lies_in p r ≡ true → lies_in q r ≡ true → lies_in p m ≡ true → lies_in q m ≡ true
  in_run p q p_in q_in p_at = grind (arith, nat_tests, lies, lies_from)

-- ---- several calls
module _ (k : ℕ) (ps : List ℕ) where
  abbrev listed_by : Positions × ℕ → Calls → List (ℕ × ℕ)
  listed_by last calls = newest_runs k last.0 (last.1 ∷ recent_after k ps calls)

  lists : (last : Positions × ℕ) (calls : Calls) →
      AreNewestRuns k last.0 (last.1 ∷ recent_after k ps calls) (listed_by last calls)
  lists last calls = newest_runs_are_listed k last.0 (last.1 ∷ recent_after k ps calls)

  -- before the run of p only runs of positions that were asked for after it
  abbrev AreLater : Positions × ℕ → Calls → ℕ → ℕ → Type 0
  AreLater last calls b p = (i j : ℕ) (q r : ℕ × ℕ) → i < j → slice_get (listed_by last calls) i ≡ Some q →
      slice_get (listed_by last calls) j ≡ Some r → lies_in p r ≡ true → HasOneOf (map (λ c. c.1) (last ∷ calls)) b q

  -- one call after the others: the run s of p was listed at j, and the run q has one of the positions before its start
  module _ (last before : Positions × ℕ) (calls : Calls) (together : StayTogether before.0 last.0)
      (b p j : ℕ) (s : ℕ × ℕ)
      (j_in : j ≤ b) (within : b < length ps) (at : slice_get (listed_by before calls) j
      ≡ Some s) (p_in : lies_in p s ≡ true)
      (later : AreLater before calls b p) (q : ℕ × ℕ) (max : IsMaximalRun last.0 q)
    where
      named_later : (a e : ℕ) → a < suc j → slice_get (last.1 ∷ recent_after k ps (before ∷ calls)) a ≡ Some e →
          lies_in e q ≡ true →
          HasOneOf (map (λ c. c.1) (last ∷ before ∷ calls)) (suc b) q
      named_later zero e l is e_in =
          (0, last.1, omega arith, refl, ap (λ n. lies_in n q) (ap (λ o. unwrap_or o e) is) ∙ e_in)
      named_later (suc a) e l is e_in =
          let list = listed_by before calls in
          let size = recent_size k ps calls in
          let r = there list a (omega (arith, l, slice_get_within list j s at)) in
          let start = start_at (recent_after k ps calls) list a r.0 (omega (arith, l, j_in, within, size)) r.1 in
          let same : e ≡ r.0.0 = ap (λ o. unwrap_or o e) (sym is ∙ start) in
          let max_r = all_at (IsMaximalRun before.0) list a r.0 (lists before calls).maximal r.1 in
          let named = later a j r.0 s (omega (arith, l)) r.1 at p_in in (
            suc named.0,
            named.1,
            omega (arith, named.2),
            named.3,
            in_run before.0 last.0 together r.0 q max_r max r.0.0 named.1
                (lies_from r.0.0 r.0 (le_refl _) max_r.some) named.4
                (ap (λ n. lies_in n q) (sym same) ∙ e_in),
          )

  newest_first : (calls : Calls) (b : ℕ) (last call : Positions × ℕ) → AllStayTogether (last ∷ calls) →
      b < k → b ≤ length ps →
      slice_get (last ∷ calls) b ≡ Some call → IsHeldSince (last ∷ calls) b call.1 →
      IsListedBy (listed_by last calls) b call.1 × AreLater last calls b call.1
  newest_first calls zero last call together few within is held =
      let same : last ≡ call = ap (λ o. unwrap_or o last) is in
      let at : contains last.0 last.1 ≡ true = ap (λ (c : Positions × ℕ). contains last.0 c.1) same
      ∙ held 0 last (omega arith) refl in
      subst (λ (c : Positions × ℕ). IsListedBy (listed_by last calls) 0 c.1 × AreLater last calls 0 c.1) same (
        (lists last calls).newest 0 last.1 refl at few,
        (λ i j q r l at_i at_j p_in. (let named = (lists last calls).order i j 0 last.1 q r l at_i at_j refl p_in in
            absurd (omega (arith, named.2)))),
      )
  newest_first [] (suc b) last call together few within is held = absurd (both_ways false refl (ap is_some is))
  newest_first (before ∷ calls) (suc b) last call together few within is held =
      let p = call.1 in
      let earlier = newest_first calls b before call together.1 (omega (arith, few)) (omega (arith, within)) is
      (λ a c l at. held (suc a) c (omega (arith, l)) at) in
      let list = listed_by before calls in
      let j = earlier.0.0 in let s = earlier.0.1 in
      let size = recent_size k ps calls in
      let max_s = all_at (IsMaximalRun before.0) list j s (lists before calls).maximal earlier.0.3 in
      let start = start_at (recent_after k ps calls) list j s (omega (arith, earlier.0.2, within, size)) earlier.0.3 in
      let start_in = lies_from s.0 s (le_refl _) max_s.some in
      let start_held = together.0 s p s.0 max_s earlier.0.4 start_in (held 0 last (omega arith) refl) in
      let listed = (lists last (before ∷ calls)).newest (suc j) s.0 start start_held
      (omega (arith, earlier.0.2, few)) in
      let all = (lists last (before ∷ calls)).maximal in
      let max_l = all_at (IsMaximalRun last.0) (listed_by last (before ∷ calls)) listed.0 listed.1 all listed.3 in (
        (
          listed.0,
          listed.1,
          omega (arith, listed.2, earlier.0.2),
          listed.3,
          in_run before.0 last.0 together.0 s listed.1 max_s max_l s.0 p start_in earlier.0.4 listed.4,
        ),
        (λ i m q r l at_i at_m p_in.
            let max_r = all_at (IsMaximalRun last.0) (listed_by last (before ∷ calls)) m r all at_m in
            let max_q = all_at (IsMaximalRun last.0) (listed_by last (before ∷ calls)) i q all at_i in
            let start_r = in_run before.0 last.0 together.0 s r max_s max_r p s.0 earlier.0.4 start_in p_in in
            let named = (lists last (before ∷ calls)).order i m (suc j) s.0 q r l at_i at_m start start_r in
            named_later last before calls together.0 b p j s earlier.0.2 (omega (arith, within)) earlier.0.3
            earlier.0.4 earlier.1 q max_q
            named.0 named.1 named.2 named.3 named.4),
      )

pub newest_are_first : NewestAreFirst
newest_are_first k b ps last call calls together few within is held =
    newest_first k ps calls b last call together few within is held

-- ---- receivers
bytes_stay : (N : ℕ) (v : ReceiverState) (cs : List CommandValue) (p : ℕ) → HasByteAt v p →
    HasByteAt (receiver_after_commands N v cs) p
bytes_stay N v [] p h = h
bytes_stay N v (c ∷ cs) p h = bytes_stay N (receiver_after_command N v c) cs p (has_byte_stays N v c p h)

sound_after_all : (N : ℕ) (v : ReceiverState) (cs : List CommandValue) → IsSound N v →
    IsSound N (receiver_after_commands N v cs)
sound_after_all N v [] sound = sound
sound_after_all N v (c ∷ cs) sound = sound_after_all N (receiver_after_command N v c) cs (sound_stays N v c sound)

pub held_stay_together : HeldStayTogether
held_stay_together N v cs sound r p q max p_in q_in p_held =
    let u = receiver_after_commands N v cs in
    let after = sound_after_all N v cs sound in
    let a = lies p r p_in in
    let b = lies q r q_in in
    let above = after.above p (sym (contains-domain u.held p) ∙ p_held) in
    ⊎_elim
    (λ (l : q < next_position u).
    ⊎_elim (λ (no : next_position u < next_position u). absurd (omega (arith, no)))
    (λ (k : fin.contains_key u.held (next_position u) ≡ true). (let no = after.above (next_position u) k in
    absurd (omega (arith, no))))
    (has_of (next_position u) (omega (arith, l, b.0)) (omega (arith, above, a.1))))
    (λ (k : fin.contains_key u.held q ≡ true). contains-domain u.held q ∙ k)
    (has_of q b.0 b.1)
  where
    has_of : (x : ℕ) → r.0 ≤ x → x < r.1 → HasByteAt (receiver_after_commands N v cs) x
    has_of x from to = bytes_stay N v cs x (inr (sym (contains-domain v.held x) ∙ max.inside x from to))
