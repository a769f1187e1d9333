-- What the clauses of a ring's calls say, from its storage.
-- Spans of a storage, as parts of the ring of that storage and of the numbers by which they were found.
-- One more element of a list is reset.
-- Sets of lemmas on a storage, a read index and a count, which close the goals of heads and of rings.
use Rattle.std.proofs.Common.{◌≢◌, get_or, ◌≡◌, ℕ, ◌+◌, ◌-◌, ◌<◌, ◌≤◌, ◌⊎◌, List, [], ◌∷◌, ◌++◌, length, take, drop}
use Rattle.std.proofs.Common.{min, refl, sym, ap, ap₂, ◌∙◌, subst, inl, inr, arith, length-drop, add-zero, nat_lt}
use Rattle.std.proofs.Common.{if◌then◌else◌, suc, Some, length-take, set, ◌↔◌, rules}
use Rattle.std.proofs.lemmas.Bool.Decides.{nat_tests}
use Rattle.std.proofs.lemmas.Bool.{false≢true, cases_lt}
use Rattle.std.proofs.lemmas.List.{drop-drop, take-take, length-take-le, take-append-drop, take_all, drop_all}
use Rattle.std.proofs.lemmas.List.{nil_from_length, drop_more, places, same_lists, drop_at, take_more, take_more_set}
use Rattle.std.proofs.lemmas.List.{drop-set-lt}
use Rattle.std.specs.Prelude.{Result, IsOk, IsErr, is_ok, slice_get}
use Rattle.std.specs.Borrow.{MutBor}
use Rattle.std.specs.Fn.{Once, FnOnceReturnsAtMut}
use denote.MutBor.{at_last}
use Rattle.std.proofs.lemmas.Option.{gets}
use Rattle.std.specs.declared.result.Result.TheVariants.{Ok, Err}
use Rattle.net_ring.specs.{overwrite, RingState, rotation, ring, capacity, window, queue, index_after, spare}
use Rattle.net_ring.specs.{storage_index, write_at, IsWellFormed, with_elements, with_elements_wrapping, with_enqueued}
use Rattle.net_ring.specs.{with_dequeued, rewind_if_empty, contiguous_window, contiguous_queued, spare_index}
use Rattle.net_ring.specs.{contiguous_unallocated, queue_index, contiguous_allocated, Enqueues, Dequeues, WritesSpare}
use Rattle.net_ring.specs.{WritesQueue, EnqueuesFrom, DequeuesFrom, ring_at, rewound, IsSound}
use Rattle.net_ring.specs.{queued_index, elements_at}
use Rattle.net_ring.specs.declared.head.RingHead.{RingHead}
use Rattle.net_ring.proofs.Rotations.{IsStorageIndex, length-rotation, length-overwrite, storage_index_is, read_at_le}
use Rattle.net_ring.proofs.Rotations.{whole, length-queue, length-spare, spare-written, with_enqueued_parts}
use Rattle.net_ring.proofs.Rotations.{with_dequeued_parts, take_sum}
use Rattle.net_ring.specs.declared.head.Span.{Span}
use Rattle.std.proofs.lemmas.List.Elements.{AllZip-push}
use Rattle.std.specs.List.{AllZip}

-- what a closure that was lent x at p left there, and gave
pub returned : {F T R : Type 0} {g : Once F (MutBor T × Unit {0}) (R × (MutBor T × Unit {0}))} {f : F} {x : T} {r : R}
    (p : MutBor T) (after : T)
    → p.now ≡ x → g.post f (p, tt) (r, (at_last p after, tt)) → FnOnceReturnsAtMut g f x r after
returned p after is met = record { shown = p; shows = is; left = at_last p after; leaves = refl; met = met }

module _ {T : Type 0} where
  -- ---- lists
  -- a write over the first elements
  overwrite_head : (s ws : List T) (k : ℕ) → k ≤ length ws → length ws ≤ length s
      → (take k (overwrite s 0 ws) ≡ take k ws)
      × (drop (length ws) (overwrite s 0 ws) ≡ drop (length ws) s)
  overwrite_head s ws k e le = search (rules, same_lists, places)

  pub overwrite_none : (s : List T) (i : ℕ) → overwrite s i [] ≡ s
  overwrite_none s i = ap (take (length s)) (take-append-drop i s) ∙ take_all (length s) s (omega arith)

  pub overwrite_whole : (s ws : List T) → length ws ≡ length s → overwrite s 0 ws ≡ ws
  overwrite_whole s ws e = same_lists _ _ (grind (arith, places)) (λ m d h. grind (arith, places))

  overwrite_twice : (s a b : List T) (i : ℕ) → i + length a + length b ≤ length s → overwrite (overwrite s i a)
      (i + length a) b ≡ overwrite s i (a ++ b)
  overwrite_twice s a b i le = same_lists _ _ (grind (arith, places)) (λ m d h. grind (arith, places))

  -- a write in two parts, the second at the beginning
  pub wrapping_is : (s ws : List T) (i k : ℕ) → i ≤ length s → k ≡ min (length ws) (length s - i)
      → overwrite (overwrite s i (take k ws)) 0 (drop k ws) ≡ overwrite (overwrite s i ws) 0 (drop (length s - i) ws)
  wrapping_is s ws i k le e = same_lists _ _ (grind (arith, places)) (λ m d h. grind (arith, places))

  -- what a part of the storage is shown as
  pub part_is : (b : List T) (p m k : ℕ) → m ≡ k → p + k ≤ length b → (now : List T) → now ≡ take m (drop p b)
      → (length now ≡ k) × (now ≡ take k (drop p b))
  part_is b p m k em le now e = search (rules, length-take-le, length-drop)

  pub take_one : (s : List T) (i : ℕ) (x : T) → i < length s → x ≡ get_or s i x → take 1 (drop i s) ≡ x ∷ []
  take_one s i x h e = ap (take 1) (drop_more s i x h) ∙ ap (λ (z : T). z ∷ []) (sym e)

  first_of : (xs : List T) (x : T) → x ∷ [] ≡ take 1 xs → xs ≡ x ∷ drop 1 xs
  first_of xs x e = sym (take-append-drop 1 xs) ∙ ap (λ (l : List T). l ++ drop 1 xs) (sym e)

  -- ---- a ring, which is its three parts
  pub ring_is : (a b : RingState T) → a.storage ≡ b.storage → a.read_at ≡ b.read_at → a.count ≡ b.count → a ≡ b
  ring_is a b es er eh = ap (λ l. ring l a.read_at a.count) es ∙ ap₂ (λ r n. ring b.storage r n) er eh

  module _ (g : RingState T) (wf : IsWellFormed g) where
    -- p is the index in the storage of the element j of the rotated storage
    abbrev At : ℕ → ℕ → Type 0
    At j p = IsStorageIndex (capacity g) g.read_at j p

    pub written_wf : (p : ℕ) (ws : List T) → IsWellFormed (with_elements g p ws)
    written_wf p ws = subst (λ (n : ℕ). ((g.read_at ≡ 0) ⊎ (g.read_at < n)) × (g.count ≤ n))
        (sym (length-overwrite g.storage p ws)) wf

    pub storage_index_le : (j : ℕ) → j ≤ capacity g → storage_index g j ≤ capacity g
    storage_index_le j le = grind (arith, nat_tests)

    -- such an index is where a ring is read
    storage_index_is_one : (k p n : ℕ) → p ≡ storage_index g k → k ≤ capacity g → n ≡ capacity g → (p ≡ 0) ⊎ (p < n)
    storage_index_is_one k p n ep le long = grind (arith, nat_tests)

    pub read_index_is : At 0 g.read_at
    read_index_is = grind arith

    pub storage_index-zero : storage_index g 0 ≡ g.read_at
    storage_index-zero = grind (arith, nat_tests)

    pub write_index_is : At (g.count + 0) (write_at g)
    write_index_is = subst (λ (j : ℕ). At j (write_at g)) (sym (add-zero g.count)) (storage_index_is g g.count)

    -- ---- parts of the storage, by queue and spare part
    pub spare_value : (i k p : ℕ) → i + k ≤ window g → p + k ≤ capacity g → At (g.count + i) p
        → take k (drop p g.storage) ≡ take k (drop i (spare g))
    spare_value i k p hi hp at = same_lists _ _ (grind (arith, places)) (λ m d h. grind (arith, places))

    pub queue_value : (i k p : ℕ) → i + k ≤ g.count → p + k ≤ capacity g → At i p
        → take k (drop p g.storage) ≡ take k (drop i (queue g))
    queue_value i k p hi hp at = same_lists _ _ (grind (arith, places)) (λ m d h. grind (arith, places))

    -- ---- writes
    pub spare_law : (i p : ℕ) (ws : List T) → i + length ws ≤ window g → p + length ws ≤ capacity g
        → At (g.count + i) p → WritesSpare g i ws (with_elements g p ws)
    spare_law i p ws hi hp at = let w = spare-written g wf i p ws hi hp at in (w.0, w.1, refl)

    pub queue_law : (i p : ℕ) (ws : List T) → i + length ws ≤ g.count → p + length ws ≤ capacity g
        → At i p → WritesQueue g i ws (with_elements g p ws)
    queue_law i p ws hi hp at = (
      same_lists _ _ (grind (arith, places, nat_tests)) (λ m d h. grind (arith, places, nat_tests)),
      same_lists _ _ (grind (arith, places, nat_tests)) (λ m d h. grind (arith, places, nat_tests)),
      refl,
    )

    -- ---- elements that are enqueued
    pub enqueued_from : (k : ℕ) (ws : List T) → k ≤ length ws → length ws ≤ contiguous_window g
        → EnqueuesFrom g k ws (with_elements (with_enqueued k g) (write_at g) ws)
    enqueued_from k ws le room =
        let p = write_at g in
        let fits : p + length ws ≤ capacity g = omega (arith, storage_index_le g.count wf.1) in
        let w = spare_law 0 p ws (omega arith) fits write_index_is in
        let t = with_enqueued_parts (with_elements g p ws) (written_wf p ws) k
        (omega (arith, length-overwrite g.storage p ws)) in
        let f = overwrite_head (spare g) ws k le (omega (arith, length-spare g wf)) in
        (t.0 ∙ ap₂ ◌++◌ w.0 (ap (take k) w.1 ∙ f.0), t.1 ∙ ap (drop k) w.1, refl)

    pub enqueued_law : (k : ℕ) → k ≤ contiguous_window g → (ws : List T) → length ws ≡ k
        → Enqueues g ws (with_elements (with_enqueued k g) (write_at g) ws)
    enqueued_law k le ws e =
        let all = enqueued_from k ws (omega arith) (omega arith) in
        let f = overwrite_head (spare g) ws k (omega arith) (omega (arith, length-spare g wf)) in (
          all.0 ∙ ap (λ (l : List T). queue g ++ l) (take_all k ws (omega arith)),
          all.1
              ∙ ap (λ (n : ℕ). drop n (overwrite (spare g) 0 ws)) (sym e) ∙ f.1,
          refl,
        )

    pub with_enqueued_law : (k : ℕ) → k ≤ window g → Enqueues g (take k (spare g)) (with_enqueued k g)
    with_enqueued_law k le =
        let t = with_enqueued_parts g wf k le in
        let long : length (take k (spare g)) ≡ k = length-take-le k (spare g) (omega (arith, length-spare g wf)) in
        (t.0, t.1 ∙ ap (λ (n : ℕ). drop n (spare g)) (sym long), refl)

    -- ---- elements that are dequeued
    pub dequeued_from : (k : ℕ) (ws : List T) → k ≤ length ws → length ws ≤ contiguous_queued g →
        DequeuesFrom g k ws (with_elements (with_dequeued k g) g.read_at ws)
    dequeued_from k ws le room =
        let w = with_elements g g.read_at ws in
        let wwf = written_wf g.read_at ws in
        let same : with_dequeued k w ≡ with_elements (with_dequeued k g) g.read_at ws =
        ap (λ n. ring (overwrite g.storage g.read_at ws) (if nat_lt k (n - g.read_at) then g.read_at + k
        else k - (n - g.read_at))
        (g.count - k)) (length-overwrite g.storage g.read_at ws) in
        let q = queue_law 0 g.read_at ws (omega arith) (omega (arith, read_at_le g wf)) read_index_is in
        let f = overwrite_head (queue g) ws k le (omega (arith, length-queue g wf)) in
        let t = with_dequeued_parts w wwf k (omega arith) in
        let whole : DequeuesFrom g k ws (with_dequeued k w) = (
          t.0 ∙ ap (drop k) q.0,
          t.1
              ∙ ap₂ ◌++◌ q.1 (ap (take k) q.0 ∙ f.0),
          ap (λ o. o.read_at) same,
        ) in
        subst (DequeuesFrom g k ws) same whole

    pub dequeued_law : (k : ℕ) → k ≤ contiguous_queued g → (ws : List T) → length ws ≡ k
        → Dequeues g k ws (with_elements (with_dequeued k g) g.read_at ws)
    dequeued_law k le ws e =
        let all = dequeued_from k ws (omega arith) (omega arith) in
        let f = overwrite_head (queue g) ws k (omega arith) (omega (arith, length-queue g wf)) in (
          all.0 ∙ ap (λ (n : ℕ). drop n (overwrite (queue g) 0 ws)) (sym e) ∙ f.1 ∙ ap (λ (n : ℕ). drop n (queue g)) e,
          all.1
              ∙ ap (λ (l : List T). spare g ++ l) (take_all k ws (omega arith)),
          refl,
        )

    pub with_dequeued_law : (k : ℕ) → k ≤ g.count → Dequeues g k (take k (queue g)) (with_dequeued k g)
    with_dequeued_law k le = let t = with_dequeued_parts g wf k le in (t.0, t.1, refl)

    -- ---- a write that wraps at the storage's end
    unwrapped : (p : ℕ) (ws : List T) → length ws ≤ capacity g - p → with_elements_wrapping g p ws ≡ with_elements g p
        ws
    unwrapped p ws room = ap (with_elements (with_elements g p ws) 0) (drop_all (length g.storage - p) ws room)
        ∙ ap (λ b. ring b g.read_at g.count) (overwrite_none (overwrite g.storage p ws) 0)

    -- after a write that ends at the storage's end comes the storage's beginning
    wrapped_index : (i p m n : ℕ) → i + m + n ≤ window g → p + m ≡ capacity g → 0 < n → At (g.count + i) p
        → At (g.count + (i + m)) 0
    wrapped_index i p m n le full some at = grind arith

    wrapping_twice : (i p : ℕ) (a b : List T) → i + length a + length b ≤ window g → p + length a ≡ capacity g
        → 0 < length b → At (g.count + i) p → WritesSpare g i (a ++ b) (with_elements (with_elements g p a) 0 b)
    wrapping_twice i p a b le full some at =
        let s = spare_law i p a (omega arith) (omega arith) at in
        let w = with_elements g p a in
        let long = length-overwrite g.storage p a in
        let next = wrapped_index i p (length a) (length b) le full some at in
        let t = spare-written w (written_wf p a) (i + length a) 0 b (omega arith) (omega (arith, wf.1))
        (subst (λ (n : ℕ). IsStorageIndex n g.read_at (g.count + (i + length a)) 0) (sym long) next) in (
          t.0 ∙ s.0,
          t.1 ∙ ap (λ (l : List T). overwrite l (i + length a) b) s.1 ∙ overwrite_twice (spare g) a b i
              (omega (arith, length-spare g wf)),
          refl,
        )

    pub wrapping_law : (i p : ℕ) (ws : List T) → i + length ws ≤ window g → p ≤ capacity g
        → At (g.count + i) p → WritesSpare g i ws (with_elements_wrapping g p ws)
    wrapping_law i p ws le within at = elim (cases_lt (length g.storage - p) (length ws)) [
      | inr once ↦ subst (WritesSpare g i ws) (sym (unwrapped p ws once)) (spare_law i p ws le (omega arith) at)
      | inl past ↦
          let m : ℕ = length g.storage - p in
          let n : m ≡ min (length ws) (length g.storage - p) = omega arith in
          let la : length (take m ws) ≡ m = length-take-le m ws (omega arith) in
          let lb : length (drop m ws) ≡ length ws - m = length-drop m ws in
          let two = wrapping_twice i p (take m ws) (drop m ws) (omega arith) (omega arith) (omega arith) at in
          let same : with_elements (with_elements g p (take m ws)) 0 (drop m ws) ≡ with_elements_wrapping g p ws =
          ap (λ b. ring b g.read_at g.count) (wrapping_is g.storage ws p m within n) in
          subst (WritesSpare g i ws) same
          (subst (λ (l : List T). WritesSpare g i l (with_elements (with_elements g p (take m ws)) 0 (drop m ws)))
          (take-append-drop m ws) two)
    ]

    -- ---- an index that is found within the window, or within the queue
    pub spare_at : (i : ℕ) → i ≤ window g → At (g.count + i) (spare_index g i)
    spare_at i le = search (rules, storage_index_is)

    spare_index_le : (i : ℕ) → spare_index g i ≤ capacity g
    spare_index_le i = storage_index_le (g.count + min i (window g)) (omega (arith, wf.1))

    queue_index_le : (i : ℕ) → queue_index g i ≤ capacity g
    queue_index_le i = storage_index_le (min i g.count) (omega (arith, wf.1))

    pub spare_part_value : (i n : ℕ)
        → take (contiguous_unallocated g i n) (drop (spare_index g i) g.storage) ≡ take (contiguous_unallocated g i n)
        (drop i (spare g))
    spare_part_value i n = same_lists _ _ (grind (arith, places, nat_tests)) (λ m d h. grind (arith, places, nat_tests))

    pub queue_part_value : (i n : ℕ)
        → take (contiguous_allocated g i n) (drop (queue_index g i) g.storage) ≡ take (contiguous_allocated g i n)
        (drop i (queue g))
    queue_part_value i n = same_lists _ _ (grind (arith, places, nat_tests)) (λ m d h. grind (arith, places, nat_tests))

    -- what is read from the index p on, up to the storage's end, and the rest of it at the storage's beginning
    pub read_around : (i n p k : ℕ) → n ≤ g.count - i → p ≤ capacity g → At (min i g.count) p
        → k ≡ min n (capacity g - p) → take k (drop p g.storage) ++ take (n - k) g.storage ≡ take n (drop i (queue g))
    read_around i n p k le within at ek = same_lists _ _ (grind (arith, places)) (λ m d h. grind (arith, places))

    pub read_parts : (i n p k : ℕ) → n ≤ g.count - i → p ≡ queue_index g i → k ≡ min n (capacity g - p)
        → take k (drop p g.storage) ++ take (n - k) g.storage ≡ take n (drop i (queue g))
    read_parts i n p k le ep = read_around i n p k le (omega (arith, queue_index_le i))
        (subst (At (min i g.count)) (sym ep) (storage_index_is g (min i g.count)))

    nothing_spare : (i p : ℕ) → WritesSpare g i [] (with_elements g p [])
    nothing_spare i p = search (rules, overwrite_none)

    -- the clause of `write_unallocated`
    pub wrapping_at : (i : ℕ) (ws : List T) → length ws ≤ window g - i
        → WritesSpare g i ws (with_elements_wrapping g (spare_index g i) ws)
    wrapping_at i ws le = elim (cases_lt (window g) i) [
      | inr h ↦ wrapping_law i (spare_index g i) ws (omega arith) (spare_index_le i) (spare_at i h)
      | inl h ↦
          let p = spare_index g i in
          subst (λ (l : List T). WritesSpare g i l (with_elements_wrapping g p l))
          (sym (nil_from_length ws (omega arith)))
          (subst (WritesSpare g i []) (sym (unwrapped p [] (omega arith))) (nothing_spare i p))
    ]

    pub spare_part_law : (i n : ℕ) (ws : List T) → length ws ≡ contiguous_unallocated g i n
        → WritesSpare g i ws (with_elements g (spare_index g i) ws)
    spare_part_law i n ws e = subst (WritesSpare g i ws) (unwrapped (spare_index g i) ws (omega arith))
        (wrapping_at i ws (omega arith))

    -- ---- one element
    pub read_fits : g.count ≢ 0 → g.read_at < capacity g
    read_fits h = elim wf.0 [ inl e ↦ omega (arith, wf.1) | inr l ↦ omega arith ]

    pub write_fits : window g ≢ 0 → write_at g < capacity g
    write_fits h = search (rules, storage_index_is, read_at_le)

    pub queue_head : (x : T) → x ≡ get_or g.storage g.read_at x → g.count ≢ 0 → queue g ≡ x ∷ drop 1 (queue g)
    queue_head x e h = search (rules, read_fits, first_of, take_one, queue_value, read_index_is)

    pub spare_head : (x : T) → x ≡ get_or g.storage (write_at g) x → window g ≢ 0 → spare g ≡ x ∷ drop 1 (spare g)
    spare_head x e h =
        let fits = write_fits h in
        first_of (spare g) x (sym (take_one g.storage (write_at g) x fits e)
        ∙ spare_value 0 1 (write_at g) (omega arith) (omega arith) write_index_is)

    pub enqueued_one : (w : T) → window g ≢ 0 → Enqueues g (w ∷ []) (with_elements (with_enqueued 1 g) (write_at g)
        (w ∷ []))
    enqueued_one w h = enqueued_law 1 (omega (arith, write_fits h)) (w ∷ []) refl

    pub dequeued_one : (w : T) → g.count ≢ 0 → Dequeues g 1 (w ∷ []) (with_elements (with_dequeued 1 g) g.read_at
        (w ∷ []))
    dequeued_one w h = dequeued_law 1 (omega (arith, read_fits h)) (w ∷ []) refl

    pub next_written : (w : T) → window g ≢ 0 → WritesSpare g 0 (w ∷ []) (with_elements g (write_at g) (w ∷ []))
    next_written w h = spare_law 0 (write_at g) (w ∷ []) (omega arith) (omega (arith, write_fits h)) write_index_is

    pub head_written : (w : T) → g.count ≢ 0 → WritesQueue g 0 (w ∷ []) (with_elements g g.read_at (w ∷ []))
    head_written w h = queue_law 0 g.read_at (w ∷ []) (omega arith) (omega (arith, read_fits h)) read_index_is

    -- what a closure that was run on the next free element leaves, by its answer
    pub next_either : {A E : Type 0} (w : T) → window g ≢ 0 → (answer : Result A E) (h : RingState T)
        → h ≡ with_elements (if is_ok answer then with_enqueued 1 g else g) (write_at g) (w ∷ [])
        → (IsOk answer → Enqueues g (w ∷ []) h) × (IsErr answer → WritesSpare g 0 (w ∷ []) h)
    next_either w some (Ok x) h e = (
      λ _. subst (Enqueues g (w ∷ [])) (sym e) (enqueued_one w some),
      λ no. absurd (false≢true no),
    )
    next_either w some (Err x) h e = (
      λ no. absurd (false≢true no),
      λ _. subst (WritesSpare g 0 (w ∷ [])) (sym e)
          (next_written w some),
    )

    -- and on the first element of the queue
    pub head_either : {A E : Type 0} (w : T) → g.count ≢ 0 → (answer : Result A E) (h : RingState T)
        → h ≡ with_elements (if is_ok answer then with_dequeued 1 g else g) g.read_at (w ∷ [])
        → (IsOk answer → Dequeues g 1 (w ∷ []) h) × (IsErr answer → WritesQueue g 0 (w ∷ []) h)
    head_either w some (Ok x) h e = (
      λ _. subst (Dequeues g 1 (w ∷ [])) (sym e) (dequeued_one w some),
      λ no. absurd (false≢true no),
    )
    head_either w some (Err x) h e = (
      λ no. absurd (false≢true no),
      λ _. subst (WritesQueue g 0 (w ∷ [])) (sym e)
          (head_written w some),
    )

  -- ---- clauses that a call proves of the fields' ring v, said of the caller's ring g
  module _ (v g : RingState T) (is : v ≡ g) (wf' : IsWellFormed v) where
    pub well : IsWellFormed g
    well = subst IsWellFormed is wf'

    -- ---- an index that is found by the numbers of v, in a storage of c elements
    pub found : (c i p : ℕ) → c ≡ capacity g → p ≡ index_after c v.read_at i → p ≡ storage_index g i
    found c i p ec ep = ep ∙ ap₂ (λ (n : ℕ) (o : RingState T). index_after n o.read_at i) ec is

    pub found_next : (c p : ℕ) → c ≡ capacity g → p ≡ index_after c v.read_at v.count → p ≡ write_at g
    found_next c p ec ep = ep ∙ ap₂ (λ (n : ℕ) (o : RingState T). index_after n o.read_at o.count) ec is

    pub found_free : (c i p : ℕ) → c ≡ capacity g → p ≡ index_after c v.read_at (v.count + min i (c - v.count))
        → p ≡ spare_index g i
    found_free c i p ec ep = ep ∙ ap₂ (λ (n : ℕ) (o : RingState T). index_after n o.read_at
        (o.count + min i (n - o.count))) ec is

    -- and how many elements are contiguous
    pub found_window : (c m : ℕ) → c ≡ capacity g → m ≡ min (c - v.count) (c - index_after c v.read_at v.count)
        → m ≡ contiguous_window g
    found_window c m ec em = em
        ∙ ap₂ (λ (n : ℕ) (o : RingState T). min (n - o.count) (n - index_after n o.read_at o.count)) ec is

    pub found_head : (c m : ℕ) → c ≡ capacity g → m ≡ min v.count (c - v.read_at) → m ≡ contiguous_queued g
    found_head c m ec em = em ∙ ap₂ (λ (n : ℕ) (o : RingState T). min o.count (n - o.read_at)) ec is

    -- one write leaves the ring well-formed
    pub once_wf : (p : ℕ) (a st : List T) → st ≡ overwrite v.storage p a → IsWellFormed (ring st v.read_at v.count)
    once_wf p a st e = subst (λ l. IsWellFormed (ring l v.read_at v.count)) (sym e) (written_wf v wf' p a)

    -- so does a write to the queue after which elements were dequeued
    pub off_wf : (k p m : ℕ) (a st : List T) → p ≡ storage_index g k → k ≤ capacity g → m ≤ v.count
        → st ≡ overwrite v.storage v.read_at a → IsWellFormed (ring st p m)
    off_wf k p m a st ep le few e = search (rules, length-overwrite, storage_index_is_one, well)

    -- and one after which elements were enqueued
    pub in_wf : (p n : ℕ) (a st : List T) → n ≤ window g → st ≡ overwrite v.storage p a
        → IsWellFormed (ring st v.read_at (v.count + n))
    in_wf p n a st le e = search (rules, once_wf, length-overwrite)

    same_storage : v.storage ≡ g.storage
    same_storage = ap (λ o. o.storage) is

    -- and what it leaves of the two parts
    pub ahead_clause : (i n : ℕ) (src : List T) (h : RingState T) → n ≡ min (length src) (window g - i)
        → h ≡ with_elements_wrapping g (spare_index g i) (take n src) → WritesSpare g i (take n src) h
    ahead_clause i n src h en e =
        subst (WritesSpare g i (take n src)) (sym e) (wrapping_at g well i (take n src)
        (omega (arith, en, length-take-le n src (omega arith))))

    -- ---- what stays once a part that was lent comes back as w
    pub left_at : (p q : ℕ) → p ≡ q → (st w : List T) → st ≡ overwrite v.storage p w
        → ring st v.read_at v.count ≡ with_elements g q w
    left_at p q ep st w e = ap (λ b. ring b v.read_at v.count) e ∙ ap (λ o. with_elements o p w) is
        ∙ ap (λ j. with_elements g j w) ep

    pub left_in : (k m p : ℕ) → k ≡ m → p ≡ write_at g → (st w : List T) → st ≡ overwrite v.storage p w
        → ring st v.read_at (v.count + k) ≡ with_elements (with_enqueued m g) (write_at g) w
    left_in k m p ek ep st w e = search rules

    pub left_off : (k m p : ℕ) → k ≡ m → p ≡ storage_index g k → (st w : List T) → st ≡ overwrite v.storage v.read_at w
        → ring st p (v.count - k) ≡ with_elements (with_dequeued m g) g.read_at w
    left_off k m p ek ep st w e = search rules

    -- ---- what a part that is lent or shown holds, at first: m elements from the index p on
    shown : (p m k : ℕ) → m ≡ k → p + k ≤ capacity g → (now : List T) → now ≡ take m (drop p v.storage)
        → (length now ≡ k) × (now ≡ take k (drop p g.storage))
    shown p m k em le now e = part_is g.storage p m k em le now (e ∙ ap (λ l. take m (drop p l)) same_storage)

    -- the same, where these k elements of the storage are the first ones of ys
    shown_as : (p q m k : ℕ) (ys : List T) → p ≡ q → m ≡ k → q + k ≤ capacity g → take k (drop q g.storage) ≡ take k ys
        → (now : List T)
        → now ≡ take m (drop p v.storage)
        → (length now ≡ k) × (now ≡ take (length now) ys) × (now ≡ take (length now) (drop q g.storage))
    shown_as p q m k ys ep em le value now e = search (rules, shown)

    pub shown_spare : (i n p m : ℕ) → p ≡ spare_index g i → m ≡ contiguous_unallocated g i n → (now : List T)
        → now ≡ take m (drop p v.storage)
        → (length now ≡ contiguous_unallocated g i n) × (now ≡ take (length now) (drop i (spare g)))
        × (now ≡ take (length now) (drop (spare_index g i) g.storage))
    shown_spare i n p m ep em = shown_as p (spare_index g i) m _ (drop i (spare g)) ep em
        (omega (arith, spare_index_le g well i)) (spare_part_value g well i n)

    pub shown_in_queue : (i n p m : ℕ) → p ≡ queue_index g i → m ≡ contiguous_allocated g i n → (now : List T)
        → now ≡ take m (drop p v.storage)
        → (length now ≡ contiguous_allocated g i n) × (now ≡ take (length now) (drop i (queue g)))
        × (now ≡ take (length now) (drop (queue_index g i) g.storage))
    shown_in_queue i n p m ep em =
        shown_as p (queue_index g i) m _ (drop i (queue g)) ep em (omega (arith, queue_index_le g well i))
        (queue_part_value g well i n)

    pub shown_next : (p m k : ℕ) → p ≡ write_at g → m ≡ k → k ≤ contiguous_window g → (now : List T)
        → now ≡ take m (drop p v.storage)
        → (length now ≡ k) × (now ≡ take (length now) (spare g))
        × (now ≡ take (length now) (drop (write_at g) g.storage))
    shown_next p m k ep em le =
        let fits : write_at g + k ≤ capacity g = omega (arith, le, storage_index_le g well g.count (well).1) in
        shown_as p (write_at g) m k (spare g) ep em fits (spare_value g well 0 k (write_at g) (omega arith) fits
        (write_index_is g well))

    pub shown_head : (p m k : ℕ) → p ≡ g.read_at → m ≡ k → k ≤ contiguous_queued g → (now : List T)
        → now ≡ take m (drop p v.storage)
        → (length now ≡ k) × (now ≡ take (length now) (queue g)) × (now ≡ take (length now) (drop g.read_at g.storage))
    shown_head p m k ep em le =
        let fits : g.read_at + k ≤ capacity g = omega (arith, read_at_le g well) in
        shown_as p g.read_at m k (queue g) ep em fits (queue_value g well 0 k g.read_at (omega arith) fits
        (read_index_is g well))

    -- the contiguous free elements, and the contiguous ones at the head of the queue
    pub lent_next : (c p n m : ℕ) → c ≡ capacity g → p ≡ index_after c v.read_at v.count
        → n ≡ min (c - v.count) (c - index_after c v.read_at v.count) → m ≡ n → (now : List T)
        → now ≡ take m (drop p v.storage)
        → (now ≡ take (contiguous_window g) (spare g)) × (length now ≡ contiguous_window g)
    lent_next c p n m ec ep en em now e =
        let all = shown_next p m (contiguous_window g) (found_next c p ec ep) (em ∙ found_window c n ec en)
        (omega arith) now e in
        (all.1 ∙ ap (λ j. take j (spare g)) all.0, all.0)

    pub lent_head : (c n m : ℕ) → c ≡ capacity g → n ≡ min v.count (c - v.read_at) → m ≡ n → (now : List T)
        → now ≡ take m (drop v.read_at v.storage)
        → (now ≡ take (contiguous_queued g) (queue g)) × (length now ≡ contiguous_queued g)
    lent_head c n m ec en em now e =
        let all = shown_head v.read_at m (contiguous_queued g) (ap (λ o. o.read_at) is) (em ∙ found_head c n ec en)
        (omega arith) now e in
        (all.1 ∙ ap (λ j. take j (queue g)) all.0, all.0)

    -- and what stays of them, n of the elements w being enqueued, or dequeued
    pub left_in_from : (k n p : ℕ) → k ≡ n → p ≡ write_at g → (st w : List T) → st ≡ overwrite v.storage p w
        → length w ≡ contiguous_window g → n ≤ contiguous_window g
        → (ring st v.read_at (v.count + k) ≡ with_elements (with_enqueued n g) (write_at g) w)
        × EnqueuesFrom g n w (ring st v.read_at (v.count + k))
    left_in_from k n p ek ep st w e long le =
        let exact = left_in k n p ek ep st w e in
        (exact, subst (EnqueuesFrom g n w) (sym exact) (enqueued_from g well n w (omega arith) (omega arith)))

    pub left_off_from : (k n p : ℕ) → k ≡ n → p ≡ storage_index g n → (st w : List T) → st ≡ overwrite v.storage
        v.read_at w
        → length w ≡ contiguous_queued g → n ≤ contiguous_queued g
        → (ring st p (v.count - k) ≡ with_elements (with_dequeued n g) g.read_at w)
        × DequeuesFrom g n w (ring st p (v.count - k))
    left_off_from k n p ek ep st w e long le =
        let exact = left_off k n p ek (ep ∙ ap (storage_index g) (sym ek)) st w e in
        (exact, subst (DequeuesFrom g n w) (sym exact) (dequeued_from g well n w (omega arith) (omega arith)))

  -- `enqueue_slice`: a write to the beginning of the spare part of r, which is then enqueued
  pub enqueue_clause : (r g w h : RingState T) (ws : List T) (n : ℕ) → r ≡ g → WritesSpare r 0 ws w
      → h ≡ with_enqueued n w
      → length ws ≡ n → n ≤ window g → Enqueues g ws h
  enqueue_clause r g w h ws n is s e l le =
      let t = subst (λ (o : RingState T). WritesSpare o 0 ws w) is s in
      let long : length (spare g) ≡ window g = omega (
        arith,
        length-drop g.count (rotation g.storage g.read_at),
        length-rotation g.storage g.read_at,
      ) in
      let f = overwrite_head (spare g) ws n (omega arith) (omega arith) in
      let q : queue (with_enqueued n w) ≡ queue g ++ ws = take_sum w.count n (rotation w.storage w.read_at)
      ∙ ap₂ ◌++◌ t.0 (ap (take n) t.1 ∙ f.0 ∙ take_all n ws (omega arith)) in
      let p : spare (with_enqueued n w) ≡ drop (length ws) (spare g) = sym
      (drop-drop n w.count (rotation w.storage w.read_at))
      ∙ ap (drop n) t.1 ∙ ap (λ i. drop i (overwrite (spare g) 0 ws)) (sym l) ∙ f.1 in
      subst (Enqueues g ws) (sym e) (q, p, t.2)

-- a ring with an empty queue is read from the storage's beginning on, and any other is as it was
pub rewind_cases : {T : Type 0} (b : RingState T) → ((b.count ≡ 0) × (rewind_if_empty b ≡ ring b.storage 0 0)) ⊎
    ((b.count ≢ 0) × (rewind_if_empty b ≡ b))
rewind_cases b = grind (arith, nat_tests)

pub rewound_is : {T : Type 0} (g : RingState T) → (queue (rewind_if_empty g) ≡ queue g)
    × ((rewind_if_empty g).count ≡ g.count)
    × ((rewind_if_empty g).storage ≡ g.storage)
rewound_is g = search (rules, rewind_cases)

pub rewind_wf : {T : Type 0} (b : RingState T) → IsWellFormed b → IsWellFormed (rewind_if_empty b)
rewind_wf b wf = search (rules, rewind_cases)

-- the same of the numbers of a ring
pub rewound_ring : {T : Type 0} (xs : List T) (p : RingHead) → ring_at xs (rewound p) ≡ rewind_if_empty (ring_at xs p)
rewound_ring xs p = grind (arith, nat_tests)

-- the index of an element that a ring can hold is below the storage's end
storage_index_below : (c r j : ℕ) → j < c → (if nat_lt j (c - r) then r + j else j - (c - r)) < c
storage_index_below c r j l = grind (arith, nat_tests)

-- if an element is queued, some contiguous ones are
contiguous_in_queue_some : {T : Type 0} (g : RingState T) (i n : ℕ) → g.count ≤ length g.storage → i < g.count → 0 < n
    → 0 < contiguous_allocated g i n
contiguous_in_queue_some g i n room l m = let below = storage_index_below (length g.storage) g.read_at (min i g.count)
    (omega arith) in omega arith

-- if an element is free, some contiguous ones are
pub contiguous_free_some : {T : Type 0} (g : RingState T) (i n : ℕ) → i < window g → 0 < n → 0 < contiguous_unallocated
    g i n
contiguous_free_some g i n l m = let below =
    storage_index_below (length g.storage) g.read_at (g.count + min i (window g)) (omega arith) in omega arith

-- the same of what comes next, also after an empty ring was moved to the storage's beginning
pub contiguous_next_some : {T : Type 0} (g : RingState T) → window g ≢ 0 → 0 < contiguous_window g
contiguous_next_some g l = let below = storage_index_below (length g.storage) g.read_at g.count (omega arith) in omega
    arith

pub contiguous_rewound_some : {T : Type 0} (g : RingState T) → window g ≢ 0 → 0 < contiguous_window (rewind_if_empty g)
contiguous_rewound_some g l = search (rules, rewound_is, contiguous_next_some)

pub contiguous_head_some : {T : Type 0} (g : RingState T) → IsWellFormed g → g.count ≢ 0 → 0 < contiguous_queued g
contiguous_head_some g wf l = omega (arith, read_fits g wf l)

-- the first of the elements that are shown from an index on, of which some are if there are any
first_shown : {T : Type 0} (xs now : List T) (i : ℕ) → now ≡ take (length now) (drop i xs)
    → (i < length xs → 0 < length now) → slice_get now 0 ≡ slice_get xs i
first_shown xs now i e some = grind (arith, places, gets)

-- a part of the queue that is shown from an index on has elements if there are any, and its first one is the one at
-- that index
pub first_in_queue : {T : Type 0} (g : RingState T) → IsWellFormed g → (i n : ℕ) (now : List T)
    → length now ≡ contiguous_allocated g i n → now ≡ take (length now) (drop i (queue g))
    → (i < g.count → 0 < n → 0 < length now) × (0 < n → slice_get now 0 ≡ slice_get (queue g) i)
first_in_queue g wf i n now long is = search (rules, contiguous_in_queue_some, first_shown, length-queue)

module _ {T : Type 0} where
  -- elements of the queue
  pub queued_elements : (xs : List T) (p : RingHead) (i : ℕ) (s : Span) → IsSound (length xs) p → s.from ≡ queued_index
      (length xs) p i
      → s.count ≤ p.length - i → s.contiguous ≡ min s.count (length xs - s.from)
      → elements_at xs s ≡ take s.count (drop i (queue (ring_at xs p)))
  queued_elements xs p i s sound at few cut = read_parts (ring_at xs p) sound i s.count s.from s.contiguous few at cut

  -- a storage xs of n elements that was lent whole, and came back as ws
  pub lent_whole : (n : ℕ) (xs lent ws : List T) → n ≡ length xs → lent ≡ take (n - 0) (drop 0 xs)
      → length ws ≡ length lent
      → (lent ≡ xs) × (overwrite xs 0 ws ≡ ws)
  lent_whole n xs lent ws en el ew = search (rules, take_all, overwrite_whole)

module _ {T : Type 0} (R : T → T → Type 0) where
  pub reset_more : (old xs : List T) (i : ℕ) (d y : T) → i < length xs → d ≡ get_or xs i d → AllZip R (take i old)
      (take i xs)
      × (drop i xs ≡ drop i old) → R (get_or xs i d) y
      → AllZip R (take (i + 1) old) (take (i + 1) (set xs i y)) × (drop (i + 1) (set xs i y) ≡ drop (i + 1) old)
  reset_more old xs i d y h is before r =
      let x : T = get_or xs i d in
      let next : take (i + 1) old ≡ take i old ++ (x ∷ []) = take_sum i 1 old
      ∙ ap (λ (l : List T). take i old ++ take 1 l) (sym before.1) ∙ ap (λ (l : List T). take i old ++ l)
      (take_one xs i x h (ap (get_or xs i) is)) in
      let set_there : take (i + 1) (set xs i y) ≡ take i xs ++ (y ∷ []) = take_more_set xs i y h in
      let pushed = AllZip-push R (take i old) (take i xs) x y before.0 r in
      let rest : drop (i + 1) (set xs i y) ≡ drop (i + 1) xs = drop-set-lt (i + 1) xs i y (omega arith) in (
        subst (λ (l : List T). AllZip R l (take (i + 1) (set xs i y))) (sym next)
            (subst (AllZip R (take i old ++ (x ∷ []))) (sym set_there) pushed),
        rest ∙ sym (drop-drop 1 i xs) ∙ ap (drop 1) before.1 ∙ drop-drop 1 i old,
      )

  pub all_reset : (old xs : List T) (i : ℕ) → length old ≤ i → length xs ≡ length old → AllZip R (take i old)
      (take i xs) → AllZip R old xs
  all_reset old xs i le long h = search (rules, take_all)

-- ---- by which the calls of heads and of rings are proved: of a storage b that is read from r on and holds n elements
module _ {T : Type 0} where
  pub take_of_drop : (k n : ℕ) (xs : List T) → k ≤ n → drop k (take n xs) ≡ take (n - k) (drop k xs)
  take_of_drop k n xs le = same_lists _ _ (grind (arith, places)) (λ m d h. grind (arith, places))

  module _ (b : List T) (r n : ℕ) (at : (r ≡ 0) ⊎ (r < length b)) (le : n ≤ length b) where
    pub no_spare : (drop n (drop r b ++ take r b) ≡ []) ↔ (length b ≤ n)
    no_spare = let long = length-spare (ring b r n) (at, le) in (
      λ e. omega (arith, ap length e),
      λ l. nil_from_length _ (omega arith),
    )

    -- k elements of the queue from element i on are contiguous
    module _ (i k p : ℕ) (few : k ≤ n - i) (ep : p ≡ index_after (length b) r (min i n)) (fits : k ≤ length b - p) where
      pub queue-shown : take k (drop i (take n (drop r b ++ take r b))) ≡ take k (drop p b)
      queue-shown = same_lists _ _ (grind (arith, places, nat_tests)) (λ m d h. grind (arith, places, nat_tests))

      pub first-shown : (i < n → 0 < k) → slice_get (take k (drop p b)) 0 ≡ slice_get (take n (drop r b ++ take r b)) i
      first-shown some =
          let long : length (take k (drop p b)) ≡ k = length-take-le k (drop p b) (omega (arith, length-drop p b)) in
          first_shown (take n (rotation b r)) (take k (drop p b)) i
          (sym queue-shown ∙ ap (λ j. take j (drop i (take n (rotation b r)))) (sym long))
          (λ l. (let s = some (omega (arith, length-queue (ring b r n) (at, le))) in omega arith))

    -- the queue is k contiguous elements, and the rest at the storage's beginning
    module _ (k : ℕ) (ek : k ≡ min n (length b - r)) where
      pub queue-cut : take k (drop r b) ++ take (n - k) b ≡ take n (drop r b ++ take r b)
      queue-cut = same_lists _ _ (grind (arith, places)) (λ m d h. grind (arith, places))

      pub queue-joined : (a z : List T) → a ≡ take k (drop r b) → z ≡ take (n - k) b → a
          ++ z ≡ take n (drop r b ++ take r b)
      queue-joined a z ea ez = ap₂ ◌++◌ ea ez ∙ queue-cut

    -- k elements are dequeued
    module _ (k : ℕ) (few : k ≤ n) where
      pub queue-read_on : take (n - k) (drop (index_after (length b) r k) b ++ take (index_after (length b) r k) b)
          ≡ drop k (take n (drop r b ++ take r b))
      queue-read_on = (with_dequeued_law (ring b r n) (at, le) k few).0

      pub spare-read_on : drop (n - k) (drop (index_after (length b) r k) b ++ take (index_after (length b) r k) b)
          ≡ drop n (drop r b ++ take r b) ++ take k (take n (drop r b ++ take r b))
      spare-read_on = (with_dequeued_law (ring b r n) (at, le) k few).1

    -- ws is written over the spare elements from i on
    module _ (i : ℕ) (ws : List T) (few : length ws ≤ length b - n - i) where
      abbrev wrote : List T
      wrote = let p = index_after (length b) r (n + min i (length b - n)) in overwrite (overwrite b p ws) 0
          (drop (length b - p) ws)

      pub queue-wrote : take n (drop r wrote ++ take r wrote) ≡ take n (drop r b ++ take r b)
      queue-wrote = (wrapping_at (ring b r n) (at, le) i ws few).0

      pub spare-wrote : drop n (drop r wrote ++ take r wrote) ≡ overwrite (drop n (drop r b ++ take r b)) i ws
      spare-wrote = (wrapping_at (ring b r n) (at, le) i ws few).1

-- what closes the goals of a head's calls, and of a ring's
pub ruleset heads = (
  queue-read_on,
  spare-read_on,
  queue-wrote,
  spare-wrote,
  queued_elements,
  wrapping_is,
  take_of_drop,
  take-take,
  length-take,
)

pub ruleset rings = (
  queue-read_on,
  spare-read_on,
  no_spare,
  take_sum,
  drop-drop,
  length-take,
  length-rotation,
)

-- those of calls that show a part of the queue, or all of it in two parts
pub ruleset shown_parts = (queue-shown, first-shown, places, nat_tests)

pub ruleset cut_parts = (queue-joined, places, nat_tests)
