-- Elements leave a ring in the order in which they came, over any calls.
use Rattle.std.proofs.Common.{◌≡◌, ℕ, ◌+◌, ◌-◌, ◌≤◌, List, [], ◌∷◌, ◌++◌, length, take, drop, refl, sym, ap, ap₂, ◌∙◌}
use Rattle.std.proofs.Common.{subst, inl, arith, append_assoc, length-drop, rules}
use Rattle.std.proofs.lemmas.List.{append-nil, take-take, take_all, places, same_lists}
use Rattle.net_ring.specs.{overwrite, RingState, IsWellFormed, ring, capacity, window, queue, write_at, storage_index}
use Rattle.net_ring.specs.{contiguous_window, contiguous_queued, contiguous_queue, spare_index, with_elements}
use Rattle.net_ring.specs.{with_elements_wrapping, with_enqueued, rewind_if_empty, RingCall, Clear, Reset}
use Rattle.net_ring.specs.{RewindIfEmpty, EnqueueSlice, EnqueueUnallocated, EnqueueMany, EnqueueManyWith, EnqueueOne}
use Rattle.net_ring.specs.{EnqueueErr, GetUnallocated, WriteUnallocated, Dequeue, DequeueMany, DequeueManyWith}
use Rattle.net_ring.specs.{DequeueOne, DequeueErr, Makes, MakesAll, log_written, log_after, log_after_all, history}
use Rattle.net_ring.specs.Log.{Log, empty_log, log_accepted, log_left, log_dropped}
use Rattle.net_ring.proofs.Rotations.{length-overwrite, overwrite-append_right, length-queue}
use Rattle.net_ring.proofs.RingFacts as facts

-- ---- lists: some of which left, and the queue
module _ {X : Type 0} where
  -- more came
  more : (gone q came next xs : List X) → gone ++ q ≡ came → next ≡ q ++ xs → gone ++ next ≡ came ++ xs
  more gone q came next xs turn is = cc (append_assoc gone q xs)

  -- the first ones left
  off : (gone q came next xs : List X) (n : ℕ) → gone ++ q ≡ came → xs ≡ take n q → next ≡ drop n q →
      (gone ++ xs) ++ next ≡ came
  off gone q came next xs n turn head_is rest = same_lists _ _ (grind (arith, places)) (λ m d h. grind (arith, places))

  -- those that have not left were written over
  over : (gone q came next ws : List X) (i : ℕ) → gone ++ q ≡ came → i + length ws ≤ length q →
      next ≡ overwrite q i ws →
      gone ++ next ≡ overwrite came (length gone + i) ws
  over gone q came next ws i turn le is = search (rules, overwrite-append_right, turn)

  -- the first ones were written over, and then some of these left
  drop-overwrite : (q ws : List X) (n : ℕ) → n ≤ length ws → length ws ≤ length q →
      drop n (overwrite q 0 ws) ≡ overwrite (drop n q) 0 (drop n ws)
  drop-overwrite q ws n le fits = same_lists _ _ (grind (arith, places)) (λ m d h. grind (arith, places))

-- ---- rings
module _ {T : Type 0} where
  -- the ring is well-formed, and what left, followed by the queue, is what came
  pub record InTurn (log : Log T) (g : RingState T) : Type 0 where
    pub ok : IsWellFormed g
    pub turn : log.left ++ queue g ≡ log.accepted

  -- a ring with k elements more, or less
  in_ok : (g : RingState T) (k : ℕ) → IsWellFormed g → k ≤ window g → IsWellFormed (with_enqueued k g)
  in_ok g k ok le = (ok.0, omega (arith, ok.1))

  off_ok : (g : RingState T) (k : ℕ) (storage ws : List T) → IsWellFormed g → k ≤ g.count →
      storage ≡ overwrite g.storage g.read_at ws →
      IsWellFormed (ring storage (storage_index g k) (g.count - k))
  off_ok g k storage ws ok le is =
      facts.off_wf g g refl ok k (storage_index g k) (g.count - k) ws storage refl (omega (arith, ok.1))
      (omega arith) is

  wrapping_ok : (g : RingState T) (p : ℕ) (ws : List T) → IsWellFormed g → IsWellFormed (with_elements_wrapping g p ws)
  wrapping_ok g p ws ok =
      facts.written_wf (with_elements g p ws) (facts.written_wf g ok p ws) 0 (drop (length g.storage - p) ws)

  wrapping_size : (g : RingState T) (p : ℕ) (ws : List T) → capacity (with_elements_wrapping g p ws) ≡ capacity g
  wrapping_size g p ws =
      length-overwrite (overwrite g.storage p ws) 0 (drop (length g.storage - p) ws) ∙ length-overwrite g.storage p ws

  -- an empty ring that was moved to the storage's beginning
  moved : (g : RingState T) → IsWellFormed g → IsWellFormed (rewind_if_empty g) × (queue (rewind_if_empty g) ≡ queue g)
      × (window (rewind_if_empty g) ≡ window g)
  moved g ok = search (rules, ok)

  -- xs was written over the spare part, round the storage's end, and then enqueued
  in_wrapping : (g : RingState T) (xs : List T) → IsWellFormed g → length xs ≤ window g →
      IsWellFormed (with_enqueued (length xs) (with_elements_wrapping g (write_at g) xs))
      × (queue (with_enqueued (length xs) (with_elements_wrapping g (write_at g) xs)) ≡ queue g ++ xs)
  in_wrapping g xs ok le =
      let o = with_elements_wrapping g (write_at g) xs in
      let within = facts.storage_index_le g ok g.count ok.1 in
      let wrote = facts.wrapping_law g ok 0 (write_at g) xs (omega arith) within (facts.write_index_is g ok) in (
        in_ok o (length xs) (wrapping_ok g (write_at g) xs ok) (omega (arith, le, wrapping_size g (write_at g) xs)),
        (facts.enqueue_clause g g o (with_enqueued (length xs) o) xs (length xs) refl wrote refl refl le).0,
      )

  -- ws was written over the spare part and its first k elements were enqueued
  in_written : (g : RingState T) (k : ℕ) (ws : List T) → IsWellFormed g → k ≤ length ws →
      length ws ≤ contiguous_window g →
      IsWellFormed (with_elements (with_enqueued k g) (write_at g) ws)
      × (queue (with_elements (with_enqueued k g) (write_at g) ws) ≡ queue g ++ take k ws)
  in_written g k ws ok le fits = (
    facts.written_wf (with_enqueued k g) (in_ok g k ok (omega arith)) (write_at g) ws,
    (facts.enqueued_from g ok k ws le fits).0,
  )

  -- the log and the ring after a call that made o of g
  module _ (log : Log T) (g o h : RingState T) (before : InTurn log g) (is : h ≡ o) (ok : IsWellFormed o) where
    same_as : queue o ≡ queue g → InTurn log h
    same_as q = subst (InTurn log) (sym is)
        (record { ok = ok; turn = ap (λ (l : List T). log.left ++ l) q ∙ before.turn })

    none_after : queue o ≡ [] → InTurn (log_dropped log) h
    none_after q =
        let turn : log.left ++ queue o ≡ log.left = ap (λ (l : List T). log.left ++ l) q ∙ append-nil log.left in
        subst (InTurn (log_dropped log)) (sym is) (record { ok = ok; turn = turn })

    more_after : (xs : List T) → queue o ≡ queue g ++ xs → InTurn (log_accepted xs log) h
    more_after xs q =
        let turn = more log.left (queue g) log.accepted (queue o) xs before.turn q in
        subst (InTurn (log_accepted xs log)) (sym is) (record { ok = ok; turn = turn })

    less_after : (n : ℕ) (xs : List T) → xs ≡ take n (queue g) → queue o ≡ drop n (queue g) → InTurn (log_left xs log) h
    less_after n xs head_is q =
        let turn = off log.left (queue g) log.accepted (queue o) xs n before.turn head_is q in
        subst (InTurn (log_left xs log)) (sym is) (record { ok = ok; turn = turn })

    over_after : (i : ℕ) (ws : List T) → i + length ws ≤ length (queue g) → queue o ≡ overwrite (queue g) i ws →
        InTurn (log_written i ws log) h
    over_after i ws le q =
        let turn = over log.left (queue g) log.accepted (queue o) ws i before.turn le q in
        subst (InTurn (log_written i ws log)) (sym is) (record { ok = ok; turn = turn })

    -- of the elements over which ws was written the first n left, as they were before
    less_and_over_after : (n : ℕ) (xs ws : List T) → xs ≡ contiguous_queue g →
        length ws ≡ contiguous_queued g → n ≤ length ws →
        contiguous_queued g ≤ length (queue g) → queue o ≡ drop n (overwrite (queue g) 0 ws) →
        InTurn (log_written 0 (drop n ws) (log_left (take n xs) log)) h
    less_and_over_after n xs ws shown long le fits q =
        let rest : queue o ≡ overwrite (drop n (queue g)) 0 (drop n ws) = q
        ∙ drop-overwrite (queue g) ws n le (omega arith) in
        let head_is : take n xs ≡ take n (queue g) = ap (take n) shown
        ∙ take-take n (contiguous_queued g) (queue g) (omega arith) in
        let half = off log.left (queue g) log.accepted (drop n (queue g)) (take n xs) n before.turn head_is refl in
        let room : 0 + length (drop n ws) ≤ length (drop n (queue g)) =
        omega (arith, length-drop n ws, length-drop n (queue g), long, fits) in
        let turn = over (log.left ++ take n xs) (drop n (queue g)) log.accepted (queue o) (drop n ws) 0
        half room rest in
        subst (InTurn (log_written 0 (drop n ws) (log_left (take n xs) log))) (sym is) (record { ok = ok; turn = turn })

  step : (call : RingCall T) (log : Log T) (g h : RingState T) → InTurn log g → Makes call g h →
      InTurn (log_after call log) h
  step Clear log g h before does = none_after log g _ h before does (inl refl, omega arith) refl
  step (Reset storage) log g h before does = none_after log g _ h before does.1 (inl refl, omega arith) refl
  step RewindIfEmpty log g h before does = let m = moved g before.ok in same_as log g _ h before does m.0 m.1
  step (EnqueueSlice xs) log g h before does =
      let m = moved g before.ok in
      let w = in_wrapping (rewind_if_empty g) xs m.0 (omega (arith, does.0, m.2)) in
      more_after log g _ h before does.1 w.0 xs (w.1 ∙ ap (λ (l : List T). l ++ xs) m.1)
  step (EnqueueUnallocated xs) log g h before does =
      let law = facts.with_enqueued_law g before.ok (length xs) does.0 in
      more_after log g _ h before does.2 (in_ok g (length xs) before.ok does.0) xs (law.0
      ∙ ap (λ (l : List T). queue g ++ l) (sym does.1))
  step (EnqueueMany xs) log g h before does =
      let m = moved g before.ok in
      let w = in_written (rewind_if_empty g) (length xs) xs m.0 (omega arith) does.0 in
      more_after log g _ h before does.1 w.0 xs (w.1 ∙ ap₂ ◌++◌ m.1 (take_all (length xs) xs (omega arith)))
  step (EnqueueManyWith ws n) log g h before does =
      let m = moved g before.ok in
      let w = in_written (rewind_if_empty g) n ws m.0 does.1 (omega (arith, does.0)) in
      more_after log g _ h before does.2 w.0 (take n ws) (w.1 ∙ ap (λ (l : List T). l ++ take n ws) m.1)
  step (EnqueueOne x) log g h before does =
      let ok = facts.written_wf (with_enqueued 1 g) (in_ok g 1 before.ok (omega (arith, does.0)))
      (write_at g) (x ∷ []) in
      more_after log g _ h before does.1 ok (x ∷ []) (facts.enqueued_one g before.ok x does.0).0
  step (EnqueueErr x) log g h before does =
      same_as log g _ h before does.1 (facts.written_wf g before.ok (write_at g) (x ∷ []))
      (facts.next_written g before.ok x does.0).0
  step (GetUnallocated i ws) log g h before does =
      same_as log g _ h before does.1 (facts.written_wf g before.ok (spare_index g i) ws)
      (facts.spare_part_law g before.ok i (length ws) ws does.0).0
  step (WriteUnallocated i ws) log g h before does =
      same_as log g _ h before does.1 (wrapping_ok g (spare_index g i) ws before.ok)
      (facts.wrapping_at g before.ok i ws does.0).0
  step (Dequeue xs) log g h before does =
      let ok = off_ok g (length xs) g.storage [] before.ok does.0 (sym (facts.overwrite_none g.storage g.read_at)) in
      less_after log g _ h before does.2 ok (length xs) xs does.1
      (facts.with_dequeued_law g before.ok (length xs) does.0).0
  step (DequeueMany xs ws) log g h before does =
      let ok = off_ok g (length xs) (overwrite g.storage g.read_at ws) ws before.ok (omega (arith, does.0)) refl in
      less_after log g _ h before does.3 ok (length xs) xs does.1
      (facts.dequeued_law g before.ok (length xs) does.0 ws does.2).0
  step (DequeueManyWith xs ws n) log g h before does =
      let ok = off_ok g n (overwrite g.storage g.read_at ws) ws before.ok (omega (arith, does.1, does.2)) refl in
      let law = facts.dequeued_from g before.ok n ws does.2 (omega (arith, does.1)) in
      less_and_over_after log g _ h before does.3 ok n xs ws does.0 does.1 does.2
      (omega (arith, length-queue g before.ok)) law.0
  step (DequeueOne x y) log g h before does =
      let ok = off_ok g 1 (overwrite g.storage g.read_at (y ∷ [])) (y ∷ []) before.ok (omega (arith, does.0)) refl in
      less_after log g _ h before does.2 ok 1 (x ∷ []) (sym (ap (take 1) does.1))
      (facts.dequeued_one g before.ok y does.0).0
  step (DequeueErr y) log g h before does =
      let ok = facts.written_wf g before.ok g.read_at (y ∷ []) in
      let room : 0 + 1 ≤ length (queue g) = omega (arith, does.0, length-queue g before.ok) in
      over_after log g _ h before does.1 ok 0 (y ∷ []) room (facts.head_written g before.ok y does.0).0

  steps : (calls : List (RingCall T)) (log : Log T) (g h : RingState T) → InTurn log g → MakesAll calls g h →
      InTurn (log_after_all calls log) h
  steps [] log g h before run = subst (InTurn log) (sym run) before
  steps (call ∷ calls) log g h before run =
      steps calls (log_after call log) run.0 h (step call log g run.0 before run.1) run.2

  pub in_turn : (storage : List T) (calls : List (RingCall T)) (h : RingState T) → MakesAll calls (ring storage 0 0) h →
      (history calls).left ++ queue h ≡ (history calls).accepted
  in_turn storage calls h run =
      (steps calls empty_log (ring storage 0 0) h (record { ok = (inl refl, omega arith); turn = refl }) run).turn
