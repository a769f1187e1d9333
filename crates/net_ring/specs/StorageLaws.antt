-- The laws of `Storage` at a slice, at a vector and at lent or owned storage. They are here and not with the proofs,
-- since the impls name them.
use Rattle.std.proofs.Common.{◌≡◌, ◌≤◌, ℕ, zero, suc, List, [], ◌∷◌, ◌++◌, length, take, drop, refl, sym, ap, ◌∙◌}
use Rattle.std.proofs.Common.{arith, length-append, length-drop, length-take}
use Rattle.std.proofs.lemmas.List.{take-append-le, take_all}
use Rattle.std.specs.Prelude.{slice_set}
use Rattle.std.specs.Global.{Vec}
use Rattle.std.specs.Vec.{with_items_from}
use Rattle.net_ring.specs.Overwrite.{overwrite}
use Rattle.net_ring.specs.Managed.{elements, with_part, with_element}
use Rattle.net_ring.specs.declared.managed.ManagedSlice.{ManagedSlice}
use Rattle.net_ring.specs.declared.managed.ManagedSlice.TheVariants.{Borrowed, Owned}

module _ {T : Type 0} where
  -- a vector's elements after a list was written over a part of them
  pub vec-part_written : (v : Vec T) (i : ℕ) (ws : List T)
      → (with_items_from v i ws).items ≡ overwrite v.items i ws
  vec-part_written v i ws =
      let xs : List T = v.items in
      let rest : List T = drop (length ws) (drop i xs) in
      let long : List T = take i xs ++ (ws ++ rest) in
      let same : v.len ≡ length xs = v.ok.0 in
      let part = length-append (take i xs) (ws ++ rest) in
      let tail = length-append ws rest in
      let left = length-drop (length ws) (drop i xs) in
      let fits : v.len ≤ length long =
      omega (arith, same, part, tail, left, length-drop i xs, length-take i xs) in
      take-append-le v.len long (drop (length long) xs) fits
      ∙ ap (λ (n : ℕ). take n long) same

  -- one element replaced is a list of one written over
  pub element_set_written : (xs : List T) (i : ℕ) (w : T)
      → slice_set xs i w ≡ overwrite xs i (w ∷ [])
  element_set_written [] zero w = refl
  element_set_written [] (suc i) w = refl
  element_set_written (x ∷ xs) zero w =
      ap (λ (l : List T). w ∷ l) (sym (take_all (length xs) xs (omega arith)))
  element_set_written (x ∷ xs) (suc i) w = ap (λ (l : List T). x ∷ l) (element_set_written xs i w)

  -- the elements of lent or owned storage after a list was written over a part of them
  pub part_written : (s : ManagedSlice T) (i : ℕ) (ws : List T)
      → elements (with_part s i ws) ≡ overwrite (elements s) i ws
  part_written (Borrowed s) i ws = refl
  part_written (Owned v) i ws = vec-part_written v i ws

  -- and after one of them was replaced
  pub element_written : (s : ManagedSlice T) (i : ℕ) (w : T)
      → elements (with_element s i w) ≡ overwrite (elements s) i (w ∷ [])
  element_written (Borrowed s) i w = element_set_written s.now i w
  element_written (Owned v) i w = element_set_written v.items i w

  -- the same, as a list of which one element is set
  pub element_set : (s : ManagedSlice T) (i : ℕ) (w : T)
      → elements (with_element s i w) ≡ slice_set (elements s) i w
  element_set (Borrowed s) i w = refl
  element_set (Owned v) i w = refl
