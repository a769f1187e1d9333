-- The elements of a ring over many calls.
--     RingCall T, Makes call g h, MakesAll calls g h      what one call did, and what calls make
--     log_after call log, log_after_all calls log, history calls      the log after calls
use Rattle.std.specs.Prelude.{◌≡◌, ◌≢◌, ◌≤◌, ℕ, ◌+◌, ◌-◌, List, [], ◌∷◌, length, take, drop}
use Rattle.net_ring.specs.Overwrite.{overwrite}
use Rattle.net_ring.specs.Log.{Log, empty_log, log_accepted, log_left, log_dropped}
use Rattle.net_ring.specs.Ring.{RingState, ring, capacity, window, queue, spare, write_at, contiguous_window}
use Rattle.net_ring.specs.Ring.{contiguous_queued, contiguous_queue, contiguous_unallocated}
use Rattle.net_ring.specs.Ring.{spare_index, with_elements, with_elements_wrapping, with_enqueued}
use Rattle.net_ring.specs.Ring.{with_dequeued, with_one_enqueued, with_one_dequeued, rewind_if_empty}

-- ---- calls
-- what one call did, with the elements that it was given, lent or left. A call that returns `Full`
-- or `Empty`, or that only shows or reads elements, changes nothing and is no call here
pub data RingCall (T : Type 0) : Type 0 where
  -- `clear`
  Clear : RingCall T
  -- `reset`: the elements that the storage then has
  Reset : List T → RingCall T
  -- `rewind_if_empty`
  RewindIfEmpty : RingCall T
  -- `enqueue_slice`: the elements that there was room for
  EnqueueSlice : List T → RingCall T
  -- `enqueue_unallocated`: the elements that were there
  EnqueueUnallocated : List T → RingCall T
  -- `enqueue_many`: the elements that were written to the part that it lent
  EnqueueMany : List T → RingCall T
  -- `enqueue_many_with`: the elements that the closure left, and how many it counted
  EnqueueManyWith : List T → ℕ → RingCall T
  -- `enqueue_one`, or `enqueue_one_with` whose closure returned `Ok`: the element that was written
  EnqueueOne : T → RingCall T
  -- `enqueue_one_with`, whose closure returned `Err`: the element that it wrote
  EnqueueErr : T → RingCall T
  -- `get_unallocated`: the offset, and the elements that were written there
  GetUnallocated : ℕ → List T → RingCall T
  -- `write_unallocated`: the offset, and the elements that there was room for
  WriteUnallocated : ℕ → List T → RingCall T
  -- `dequeue_slice` or `dequeue_allocated`: the elements that left
  Dequeue : List T → RingCall T
  -- `dequeue_many`: the elements that it lent, and those that were written there
  DequeueMany : List T → List T → RingCall T
  -- `dequeue_many_with`: the elements that the closure was lent, those that it left there, and how
  -- many it counted
  DequeueManyWith : List T → List T → ℕ → RingCall T
  -- `dequeue_one`, or `dequeue_one_with` whose closure returned `Ok`: the element that was lent, and
  -- the one that was written there
  DequeueOne : T → T → RingCall T
  -- `dequeue_one_with`, whose closure returned `Err`: the element that it wrote
  DequeueErr : T → RingCall T

module _ {T : Type 0} where
  -- the call makes h of g: this follows from the clauses of its contract
  abbrev pub Makes : RingCall T → RingState T → RingState T → Type 0
  Makes Clear g h = h ≡ ring g.storage 0 0
  Makes (Reset storage) g h = (length storage ≡ capacity g) × (h ≡ ring storage 0 0)
  Makes RewindIfEmpty g h = h ≡ rewind_if_empty g
  Makes (EnqueueSlice xs) g h =
      (length xs ≤ window g)
      × (h
      ≡ with_enqueued (length xs) (with_elements_wrapping (rewind_if_empty g) (write_at (rewind_if_empty g)) xs))
  Makes (EnqueueUnallocated xs) g h =
      (length xs ≤ window g) × (xs ≡ take (length xs) (spare g))
      × (h ≡ with_enqueued (length xs) g)
  Makes (EnqueueMany xs) g h =
      (length xs ≤ contiguous_window (rewind_if_empty g))
      × (h ≡ with_elements (with_enqueued (length xs) (rewind_if_empty g)) (write_at (rewind_if_empty g)) xs)
  Makes (EnqueueManyWith ws n) g h =
      (length ws ≡ contiguous_window (rewind_if_empty g)) × (n ≤ length ws)
      × (h ≡ with_elements (with_enqueued n (rewind_if_empty g)) (write_at (rewind_if_empty g)) ws)
  Makes (EnqueueOne x) g h =
      (window g ≢ 0) × (h ≡ with_one_enqueued g x)
  Makes (EnqueueErr x) g h = (window g ≢ 0) × (h ≡ with_elements g (write_at g) (x ∷ []))
  Makes (GetUnallocated i ws) g h =
      (length ws ≡ contiguous_unallocated g i (length ws)) × (h ≡ with_elements g (spare_index g i) ws)
  Makes (WriteUnallocated i ws) g h =
      (length ws ≤ window g - i) × (h ≡ with_elements_wrapping g (spare_index g i) ws)
  Makes (Dequeue xs) g h =
      (length xs ≤ g.count) × (xs ≡ take (length xs) (queue g)) × (h ≡ with_dequeued (length xs) g)
  Makes (DequeueMany xs ws) g h =
      (length xs ≤ contiguous_queued g) × (xs ≡ take (length xs) (queue g))
      × (length ws ≡ length xs) × (h ≡ with_elements (with_dequeued (length xs) g) g.read_at ws)
  Makes (DequeueManyWith xs ws n) g h =
      (xs ≡ contiguous_queue g) × (length ws ≡ contiguous_queued g) × (n ≤ length ws)
      × (h ≡ with_elements (with_dequeued n g) g.read_at ws)
  Makes (DequeueOne x y) g h =
      (g.count ≢ 0) × (queue g ≡ x ∷ drop 1 (queue g))
      × (h ≡ with_one_dequeued g y)
  Makes (DequeueErr y) g h = (g.count ≢ 0) × (h ≡ with_elements g g.read_at (y ∷ []))

  -- the calls, one after another, make h of g
  abbrev pub MakesAll : List (RingCall T) → RingState T → RingState T → Type 0
  MakesAll [] g h = h ≡ g
  MakesAll (call ∷ calls) g h = (next : RingState T) × Makes call g next × MakesAll calls next h

  -- ---- what was accepted and what left
  -- ws was written over the elements that have not left, from the one at the offset i on
  abbrev pub log_written : ℕ → List T → Log T → Log T
  log_written i ws log =
      record { accepted = overwrite log.accepted (length log.left + i) ws; left = log.left }

  -- the log after a call
  abbrev pub log_after : RingCall T → Log T → Log T
  log_after Clear log = log_dropped log
  log_after (Reset storage) log = log_dropped log
  log_after RewindIfEmpty log = log
  log_after (EnqueueSlice xs) log = log_accepted xs log
  log_after (EnqueueUnallocated xs) log = log_accepted xs log
  log_after (EnqueueMany xs) log = log_accepted xs log
  log_after (EnqueueManyWith ws n) log = log_accepted (take n ws) log
  log_after (EnqueueOne x) log = log_accepted (x ∷ []) log
  log_after (EnqueueErr x) log = log
  log_after (GetUnallocated i ws) log = log
  log_after (WriteUnallocated i ws) log = log
  log_after (Dequeue xs) log = log_left xs log
  log_after (DequeueMany xs ws) log = log_left xs log
  log_after (DequeueManyWith xs ws n) log = log_written 0 (drop n ws) (log_left (take n xs) log)
  log_after (DequeueOne x y) log = log_left (x ∷ []) log
  log_after (DequeueErr y) log = log_written 0 (y ∷ []) log

  -- the log after calls, one after another
  abbrev pub log_after_all : List (RingCall T) → Log T → Log T
  log_after_all [] log = log
  log_after_all (call ∷ calls) log = log_after_all calls (log_after call log)

  -- the log of calls from a new ring on
  abbrev pub history : List (RingCall T) → Log T
  history calls = log_after_all calls empty_log
