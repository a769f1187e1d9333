-- What of a segment came before, by the sets of a head.
use Rattle.std.proofs.lemmas.Bool.Decides.{nat_tests}
use Rattle.net_receiver.specs.Duplicates.{came, TellsPart, TellsFirst}
use Rattle.net_assembler.specs.Positions.{EndsHole}
use Rattle.net_receiver.proofs.Words.{◌≡◌, ℕ, ◌+◌, ◌-◌, ◌<◌, ◌≤◌, ◌&&◌, min, max, Bool, true, false, Option, Some, None}
use Rattle.net_receiver.proofs.Words.{sym, ap, ◌∙◌, arith, nat_le, nat_lt, le-leb, lt-ltb, and_from, both_ways}
use Rattle.net_receiver.proofs.Words.{⊎_elim, cases_lt, contains, Positions, shift_up, contains-shift_up, first_missing}
use Rattle.net_receiver.proofs.Words.{first_missing-le, first_missing-has, first_missing-misses, or_left, or_cases}
use Rattle.net_receiver.proofs.Words.{and_parts, leb-true, false_from_ne_true, IsTrue, ◌^◌}

-- the first position from p on, by the hole that begins at the first missing one
pub here_first : (s : Positions) (p m : ℕ) → m ≡ first_missing s p → p < m → TellsFirst s p (Some p)
here_first s p m is more = grind (arith, nat_tests, first_missing-has)

pub after_first : (s : Positions) (p m : ℕ) (r : Option ℕ) → m ≡ first_missing s p → m ≤ p → EndsHole s m r →
    TellsFirst s p r
after_first s p m (Some o) is less ends =
    let least = first_missing-le s p in
    (omega (arith, ends.0, is, least), ends.1, λ q a b. ends.2 q (omega (arith, a, less)) b)
after_first s p m None is less ends = λ q a. ends q (omega (arith, a, less))

-- what follows on a has a number
pub ends_within : (s : Positions) (n a m : ℕ) → contains s a ≡ true → m ≡ first_missing s a →
    ((p : ℕ) → IsTrue (contains s p) → n + p + 1 < 2 ^ 64) →
    n + m < 2 ^ 64
ends_within s n a m has is fits =
    let least = first_missing-le s a in
    ⊎_elim (λ (l : a < m). (let f =
    fits (m - 1) (first_missing-has s a (m - 1) (omega (arith, l)) (omega (arith, l, is))) in omega (arith, f, l)))
    (λ (l : m ≤ a). (let f = fits a has in omega (arith, f, l)))
    (cases_lt a m)

-- held positions, counted from n, the first missing one
module _ (s : Positions) (n top : ℕ) (under : (p : ℕ) → contains s p ≡ true → p < top) where
  held_there : (q : ℕ) → n ≤ q → contains (shift_up s n) q ≡ contains s (q - n)
  held_there q l = contains-shift_up s n q ∙ ap (λ b. b && contains s (q - n)) (le-leb n q l)

  module _ (from e o : ℕ) (low : n ≤ from) (at : o ≡ min (from - n) top) where
    -- the first held one is at the offset a
    module _ (a m : ℕ) (first : TellsFirst s o (Some a)) (is : m ≡ first_missing s a) where
      place : o ≡ from - n
      place = (let l = under a first.1 in let f = first.0 in omega (arith, at, l, f))

      more : a < m
      more =
          let least = first_missing-le s a in
          ⊎_elim (λ (l : a < m). l)
          (λ (l : m ≤ a).
          let same : first_missing s a ≡ a = omega (arith, is, l, least) in
          absurd (both_ways _ (ap (contains s) (sym same) ∙ first_missing-misses s a) first.1))
          (cases_lt a m)

      before_it : (q : ℕ) → from ≤ q → q < n + a → contains (shift_up s n) q ≡ false
      before_it q x y = (let p = place in held_there q (omega (arith, low, x))
          ∙ first.2 (q - n) (omega (arith, p, x)) (omega (arith, y, x, low)))

      pub part_there : n + a < min e (n + m) →
          TellsPart (λ q. contains (shift_up s n) q) from e (Some (n + a, min e (n + m)))
      part_there l = record {
        from = (let p = place in let f = first.0 in omega (arith, p, f, low));
        some = l;
        within = omega arith;
        before = before_it;
        part = λ q x y. held_there q (omega (arith, x))
            ∙ first_missing-has s a (q - n) (omega (arith, x)) (omega (arith, x, y, is));
        whole = λ l.
            let same : min e (n + m) ≡ n + first_missing s a = omega (arith, l, is) in
            let back : n + first_missing s a - n ≡ first_missing s a = omega arith in
            ap (contains (shift_up s n)) same ∙ held_there (n + first_missing s a) (omega arith)
            ∙ ap (contains s) back ∙ first_missing-misses s a;
      }

      pub part_beyond : min e (n + m) ≤ n + a → TellsPart (λ q. contains (shift_up s n) q) from e None
      part_beyond l = λ q x y. (let k = more in before_it q x (omega (arith, l, k, y)))

    -- or none is
    pub part_none : TellsFirst s o None → TellsPart (λ q. contains (shift_up s n) q) from e None
    part_none none = λ q x y. held_there q (omega (arith, low, x)) ∙ none (q - n) (omega (arith, at, x, low))

  -- with what is below the first missing one
  module _ (f pos e : ℕ) (stream : f ≤ n) (above : (p : ℕ) → contains s p ≡ true → 0 < p) where
    abbrev t : ℕ → Bool
    t = came f n (shift_up s n)

    not_held : (q : ℕ) → q ≤ n → contains (shift_up s n) q ≡ false
    not_held q l =
        false_from_ne_true _ (λ there.
        let both = and_parts _ _ (sym (contains-shift_up s n q) ∙ there) in
        let up = above (q - n) both.1 in omega (arith, l, up))

    lacks_low : (q : ℕ) → q < f → t q ≡ false
    lacks_low q l =
        false_from_ne_true _ (λ there.
        ⊎_elim (λ (a : (nat_le f q && nat_lt q n) ≡ true). (let x = leb-true f q (and_parts _ _ a).0 in
        omega (arith, l, x)))
        (λ (b : contains (shift_up s n) q ≡ true). both_ways _ (not_held q (omega (arith, l, stream))) b)
        (or_cases _ _ there))

    has_low : (q : ℕ) → f ≤ q → q < n → t q ≡ true
    has_low q a b = or_left _ _ (and_from _ _ (le-leb f q a) (lt-ltb q n b))

    same_high : (q : ℕ) → n ≤ q → t q ≡ contains (shift_up s n) q
    same_high q l = grind (arith, nat_tests, Bool)

    pub low_part : max pos f < min e n → TellsPart t pos e (Some (max pos f, min e n))
    low_part l = record {
      from = omega arith;
      some = l;
      within = omega arith;
      before = λ q a b. lacks_low q (omega (arith, a, b));
      part = λ q a b. has_low q (omega (arith, a)) (omega (arith, b));
      whole = λ l. (let same : min e n ≡ n = omega (arith, l) in
          ap t same ∙ same_high n (omega arith) ∙ not_held n (omega arith));
    }

    lacks_between : min e n ≤ max pos f → (q : ℕ) → pos ≤ q → q < e → q < n → t q ≡ false
    lacks_between l q a b c = lacks_low q (omega (arith, l, a, b, c))

    pub high_part : (r : Option (ℕ × ℕ)) → min e n ≤ max pos f →
        TellsPart (λ q. contains (shift_up s n) q) (max pos n) e r → TellsPart t pos e r
    high_part (Some r) l p = record {
      from = (let x = p.from in omega (arith, x));
      some = p.some;
      within = p.within;
      before = λ q a b.
          ⊎_elim (λ (c : q < n). lacks_between l q a (let y = p.some in let z = p.within in omega (arith, b, y, z)) c)
          (λ (c : n ≤ q). same_high q c ∙ p.before q (omega (arith, a, c)) b) (cases_lt q n);
      part = λ q a b. (let x = p.from in same_high q (omega (arith, a, x)) ∙ p.part q a b);
      whole = λ h. (let x = p.from in let y = p.some in same_high r.1 (omega (arith, x, y)) ∙ p.whole h);
    }
    high_part None l p = λ q a b.
        ⊎_elim (λ (c : q < n). lacks_between l q a b c)
        (λ (c : n ≤ q). same_high q c ∙ p q (omega (arith, a, c)) b) (cases_lt q n)

-- what is told of a part that begins beyond, or of none
pub ruleset parts = (part_beyond, part_none)
