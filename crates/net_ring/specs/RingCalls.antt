-- Calls of a ring that call a closure: what they require of the closure, and what they leave.
--     TakesFirstOf f xs, CountsWithin f xs n      what is required of a closure
--     CalledOnNext f old answer new, CalledOnFirst f old answer new      it was called on one element
--     CalledOnSpare f old answer new, CalledOnQueue f old answer new      or on contiguous ones
use Rattle.std.specs.Prelude.{◌≡◌, ◌≤◌, ℕ, List, [], ◌∷◌, length, drop, Result, IsOk, IsErr, is_ok, if◌then◌else◌}
use Rattle.std.specs.Borrow.{MutBor}
use Rattle.std.specs.Fn.{Once, FnOnceTakesAtMut, FnOnceReturnsAtMut}
use Rattle.net_ring.specs.Ring.{RingState, queue, spare, write_at, contiguous_window, contiguous_queued}
use Rattle.net_ring.specs.Ring.{contiguous_spare, contiguous_queue, with_elements, with_enqueued, with_dequeued}
use Rattle.net_ring.specs.Ring.{Enqueues, Dequeues, WritesSpare, WritesQueue, EnqueuesFrom, DequeuesFrom}

-- ---- the closure is lent one element
module _ {F T R E : Type 0}
    (g : Once F (MutBor T × Unit {0}) (Result R E × (MutBor T × Unit {0}))) where
  -- f may be called on the first element of xs, if there is one
  abbrev pub TakesFirstOf : F → List T → Type 0
  TakesFirstOf f xs = (x : T) → xs ≡ x ∷ drop 1 xs → FnOnceTakesAtMut g f x

  -- f was called on the next free element x, left y there and returned `answer`: on `Ok` y is at the end of the queue,
  -- and on `Err` at the beginning of the spare part
  abbrev pub CalledOnNext : F → RingState T → Result R E → RingState T → Type 0
  CalledOnNext f old answer new = (x : T) × (y : T)
      × FnOnceReturnsAtMut g f x answer y
      × (spare old ≡ x ∷ drop 1 (spare old))
      × (new ≡ with_elements (if is_ok answer then with_enqueued 1 old else old) (write_at old) (y ∷ []))
      × (IsOk answer → Enqueues old (y ∷ []) new)
      × (IsErr answer → WritesSpare old 0 (y ∷ []) new)

  -- f was called on the head x of the queue, left y there and returned `answer`: at `Ok` y left the
  -- queue, and at `Err` it is its head
  abbrev pub CalledOnFirst : F → RingState T → Result R E → RingState T → Type 0
  CalledOnFirst f old answer new = (x : T) × (y : T)
      × FnOnceReturnsAtMut g f x answer y
      × (queue old ≡ x ∷ drop 1 (queue old))
      × (new ≡ with_elements (if is_ok answer then with_dequeued 1 old else old) old.read_at (y ∷ []))
      × (IsOk answer → Dequeues old 1 (y ∷ []) new)
      × (IsErr answer → WritesQueue old 0 (y ∷ []) new)

-- ---- the closure is lent contiguous elements, and returns how many of them it counts, and more
module _ {F T R : Type 0}
    (g : Once F (MutBor (List T) × Unit {0}) ((ℕ × R) × (MutBor (List T) × Unit {0}))) where
  -- called on the elements xs, f counts at most n
  abbrev pub CountsWithin : F → List T → ℕ → Type 0
  CountsWithin f xs n = (r : ℕ × R) (ws : List T) → FnOnceReturnsAtMut g f xs r ws → r.0 ≤ n

  -- f was called on the contiguous spare elements, left ws there and returned `answer`: the first
  -- ones of ws, as many as it counts, are now the end of the queue
  abbrev pub CalledOnSpare : F → RingState T → ℕ × R → RingState T → Type 0
  CalledOnSpare f old answer new = (ws : List T)
      × FnOnceReturnsAtMut g f (contiguous_spare old) answer ws
      × (length ws ≡ contiguous_window old)
      × (new ≡ with_elements (with_enqueued answer.0 old) (write_at old) ws)
      × EnqueuesFrom old answer.0 ws new

  -- f was called on the contiguous elements at the head of the queue, left ws there and returned
  -- `answer`: the first ones of ws, as many as it counts, left the queue
  abbrev pub CalledOnQueue : F → RingState T → ℕ × R → RingState T → Type 0
  CalledOnQueue f old answer new = (ws : List T)
      × FnOnceReturnsAtMut g f (contiguous_queue old) answer ws
      × (length ws ≡ contiguous_queued old)
      × (new ≡ with_elements (with_dequeued answer.0 old) old.read_at ws)
      × DequeuesFrom old answer.0 ws new
