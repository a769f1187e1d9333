-- A call that writes is the machine's step.
use Rattle.std.proofs.Common.{◌≡◌, ℕ, ◌-◌, List, length, take, min, ap, ◌∙◌, subst, arith}
use Rattle.std.proofs.lemmas.List.{places, same_lists}
use Rattle.net_ring.specs.Ring.{window, spare_index, with_elements_wrapping}
use Rattle.net_ring.specs.RingHead.{ring_at}
use Rattle.net_ring.specs.declared.head.RingHead.{RingHead}
use Rattle.net_ring.specs.SplitRing.{written_over}

module _ {T : Type 0} where
  take_most : (xs : List T) (k n : ℕ) → k ≡ min (length xs) n → take k xs ≡ take n xs
  take_most xs k n is = same_lists _ _ (grind (arith, places)) (λ m d h. grind (arith, places))

  pub written_is : (old new xs : List T) (p q : RingHead) (k : ℕ) → p ≡ q →
      k ≡ min (length xs) (window (ring_at old p) - 0) →
      ring_at new p ≡ with_elements_wrapping (ring_at old p) (spare_index (ring_at old p) 0) (take k xs) →
      new ≡ written_over (ring_at old q) 0 xs
  written_is old new xs p q k same few is =
      subst (λ (r : RingHead). new ≡ written_over (ring_at old r) 0 xs) same
      (ap (λ o. o.storage) is
      ∙ ap (λ (l : List T). (with_elements_wrapping (ring_at old p) (spare_index (ring_at old p) 0) l).storage)
      (take_most xs k (window (ring_at old p) - 0) few))
