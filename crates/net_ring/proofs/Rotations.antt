-- What a rotated list holds after a write to the list, and how the queue and the spare part of a ring change.
-- Elements of a list that was written over.
use Rattle.std.proofs.Common.{◌≡◌, ℕ, ◌+◌, ◌-◌, ◌<◌, ◌≤◌, ◌⊎◌, List, ◌++◌, length, take, drop, sym, ap, ap₂, ◌∙◌, inl}
use Rattle.std.proofs.Common.{inr, arith, append_assoc, length-drop, ◌≢◌, Some, ◌∷◌, [], rules}
use Rattle.std.proofs.lemmas.List.{take-append-drop, length-take-le, take_at, drop_at, take-append-le, drop-append-le}
use Rattle.std.proofs.lemmas.List.{take-take, drop-take, drop-drop, places, same_lists}
use Rattle.std.proofs.lemmas.Bool.Decides.{nat_tests}
use Rattle.net_ring.specs.StorageLaws.{element_set_written}
use Rattle.net_ring.specs.{overwrite, OverwritesAt, RingState, rotation, capacity, window, queue, spare, storage_index}
use Rattle.net_ring.specs.{IsWellFormed, with_elements, with_enqueued, with_dequeued}
use Rattle.std.specs.Prelude.{slice_get, slice_set}
use Rattle.std.proofs.lemmas.Grind.{common_steps}
use Rattle.std.proofs.lemmas.Option.{gets}

-- p is the index, in a list of c elements, of the element j of the list rotated by r
abbrev pub IsStorageIndex : ℕ → ℕ → ℕ → ℕ → Type 0
IsStorageIndex c r j p = ((j < c - r) × (p ≡ r + j)) ⊎ ((c - r ≤ j) × (p + (c - r) ≡ j))

module _ {T : Type 0} where
  -- ---- lists, element by element
  pub overwrite_at : (a m z ws : List T) (i : ℕ) → length a ≡ i → length m ≡ length ws → overwrite (a ++ (m ++ z)) i
      ws ≡ a ++ (ws ++ z)
  overwrite_at a m z ws i ha hm = same_lists _ _ (grind (arith, places)) (λ m d h. grind (arith, places))

  -- a list cut in two
  pub cut : (n : ℕ) (xs : List T) → n ≤ length xs → (a : List T) × (z : List T) × (xs ≡ a ++ z) × (length a ≡ n)
      × (length z ≡ length xs - n)
  cut n xs h = (take n xs, drop n xs, sym (take-append-drop n xs), length-take-le n xs h, length-drop n xs)

  pub length-rotation : (b : List T) (r : ℕ) → length (rotation b r) ≡ length b
  length-rotation b r = grind (arith, places)

  pub length-overwrite : (b : List T) (i : ℕ) (ws : List T) → length (overwrite b i ws) ≡ length b
  length-overwrite b i ws = grind (arith, places)

  -- a write to the index that is j elements on, as the rotated list has it
  rotation-overwrite : (b : List T) (r j p : ℕ) (ws : List T) → r ≤ length b → j + length ws ≤ length b
      → p + length ws ≤ length b
      → IsStorageIndex (length b) r j p → rotation (overwrite b p ws) r ≡ overwrite (rotation b r) j ws
  rotation-overwrite b r j p ws hr hj hp at = same_lists _ _ (grind (arith, places)) (λ m d h. grind (arith, places))

  -- ---- a write within one of two joined lists
  pub overwrite-append_right : (f s ws : List T) (n i : ℕ) → length f ≡ n → i + length ws ≤ length s
      → overwrite (f ++ s) (n + i) ws ≡ f ++ overwrite s i ws
  overwrite-append_right f s ws n i hf le = same_lists _ _ (grind (arith, places)) (λ m d h. grind (arith, places))

  pub storage_index_is : (g : RingState T) (j : ℕ) → IsStorageIndex (capacity g) g.read_at j (storage_index g j)
  storage_index_is g j = grind (arith, nat_tests)

  -- to read from k places on is to rotate by k more
  rotation-storage_index : (b : List T) (r k p : ℕ) → r ≤ length b → k ≤ length b → IsStorageIndex (length b) r k p
      → rotation b p ≡ drop k (rotation b r) ++ take k (rotation b r)
  rotation-storage_index b r k p hr hk at = same_lists _ _ (grind (arith, places)) (λ m d h. grind (arith, places))

  pub take_sum : (n k : ℕ) (xs : List T) → take (n + k) xs ≡ take n xs ++ take k (drop n xs)
  take_sum n k xs = sym (take-append-drop n (take (n + k) xs)) ∙ ap₂ ◌++◌ (take-take n (n + k) xs (omega arith))
      (drop-take n k xs)

  -- ---- the queue and the spare part of a ring
  module _ (g : RingState T) (wf : IsWellFormed g) where
    pub read_at_le : g.read_at ≤ length g.storage
    read_at_le = elim wf.0 [ inl e ↦ omega arith | inr h ↦ omega arith ]

    pub whole : rotation g.storage g.read_at ≡ queue g ++ spare g
    whole = sym (take-append-drop g.count (rotation g.storage g.read_at))

    pub length-queue : length (queue g) ≡ g.count
    length-queue = length-take-le g.count (rotation g.storage g.read_at)
        (omega (arith, length-rotation g.storage g.read_at, wf.1))

    pub length-spare : length (spare g) ≡ window g
    length-spare = search (rules, length-drop, length-rotation)

    -- what is written to the spare part
    pub spare-written : (i p : ℕ) (ws : List T) → i + length ws ≤ window g → p + length ws ≤ capacity g
        → IsStorageIndex (capacity g) g.read_at (g.count + i) p
        → (queue (with_elements g p ws) ≡ queue g) × (spare (with_elements g p ws) ≡ overwrite (spare g) i ws)
    spare-written i p ws hi hp at =
        let turned : rotation (overwrite g.storage p ws) g.read_at ≡ queue g ++ overwrite (spare g) i ws =
        rotation-overwrite g.storage g.read_at (g.count + i) p ws read_at_le (omega (arith, wf.1)) hp at
        ∙ ap (λ (l : List T). overwrite l (g.count + i) ws) whole
        ∙ overwrite-append_right (queue g) (spare g) ws g.count i length-queue (omega (arith, length-spare)) in (
          ap (take g.count) turned ∙ take_at (queue g) (overwrite (spare g) i ws) g.count length-queue,
          ap (drop g.count) turned
              ∙ drop_at (queue g) (overwrite (spare g) i ws) g.count length-queue,
        )

    pub with_enqueued_parts : (k : ℕ) → k ≤ window g → (queue (with_enqueued k g) ≡ queue g ++ take k (spare g))
        × (spare (with_enqueued k g) ≡ drop k (spare g))
    with_enqueued_parts k h = search (rules, take_sum, drop-drop)

    pub with_dequeued_parts : (k : ℕ) → k ≤ g.count → (queue (with_dequeued k g) ≡ drop k (queue g))
        × (spare (with_dequeued k g) ≡ spare g ++ take k (queue g))
    with_dequeued_parts k h =
        let all = rotation g.storage g.read_at in
        let turned : rotation g.storage (storage_index g k) ≡ drop k (queue g) ++ (spare g ++ take k (queue g)) =
        rotation-storage_index g.storage g.read_at k (storage_index g k) read_at_le (omega (arith, wf.1))
        (storage_index_is g k)
        ∙ ap (λ (l : List T). drop k l ++ take k l) whole
        ∙ ap₂ ◌++◌ (drop-append-le k (queue g) (spare g) (omega (arith, length-queue)))
        (take-append-le k (queue g) (spare g) (omega (arith, length-queue)))
        ∙ append_assoc (drop k (queue g)) (spare g) (take k (queue g)) in
        let long : length (drop k (queue g)) ≡ g.count - k = omega (arith, length-drop k (queue g), length-queue) in (
          ap (take (g.count - k)) turned ∙ take_at (drop k (queue g)) (spare g ++ take k (queue g)) (g.count - k) long,
          ap (drop (g.count - k)) turned ∙ drop_at (drop k (queue g)) (spare g ++ take k (queue g)) (g.count - k) long,
        )

module _ {X : Type 0} where
  pub overwritten_at : (xs ws : List X) (i k : ℕ) (x : X) → OverwritesAt xs i ws k x
  overwritten_at xs ws i k x h = grind (arith, places, nat_tests)

  pub overwrite-same : (xs : List X) (i n : ℕ) → overwrite xs i (take n (drop i xs)) ≡ xs
  overwrite-same xs i n = same_lists _ _ (grind (arith, places)) (λ m d h. grind (arith, places))

  -- ---- one element that was set
  pub get_after_set : (xs : List X) (i : ℕ) (x : X) → i < length xs → slice_get (slice_set xs i x) i ≡ Some x
  get_after_set xs i x h = grind (arith, common_steps, gets)

  pub get_elsewhere : (xs : List X) (i k : ℕ) (x : X) → k ≢ i → slice_get (overwrite xs i (x ∷ [])) k ≡ slice_get xs k
  get_elsewhere xs i k x ne = ap (λ l. slice_get l k) (sym (element_set_written xs i x)) ∙ after_set
    where
      after_set : slice_get (slice_set xs i x) k ≡ slice_get xs k
      after_set = grind (arith, common_steps, gets)

pub ruleset one_set = (get_after_set, get_elsewhere)
