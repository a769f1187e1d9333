-- A ring by its storage, the index where it is read and how many elements are queued.
--     RingState T, ring b r n, IsWellFormed g      a ring, and what is true of each
--     capacity g, window g, queue g, spare g      its capacity and window, and its two parts
--     index_after c r i, storage_index g i, write_at g, last_dequeued_index g k      indices of the storage
--     contiguous_window g, contiguous_spare g, spare_index g i, contiguous_unallocated g i n      the
--         contiguous elements of the spare part
--     contiguous_queued g, contiguous_queue g, queue_index g i, contiguous_allocated g i n      those
--         of the queue
--     with_elements g p ws, with_elements_wrapping g p ws, with_enqueued k g, with_dequeued k g,
--         with_one_enqueued g x, with_one_dequeued g x, rewind_if_empty g      what calls leave
--     Enqueues g ws h, Dequeues g k ws h, WritesSpare g i ws h, WritesQueue g i ws h,
--         EnqueuesFrom g k ws h, DequeuesFrom g k ws h      the same by queue and spare part
use Rattle.std.specs.Prelude.{◌≡◌, ◌⊎◌, ℕ, ◌+◌, ◌-◌, ◌<◌, ◌≤◌, nat_lt, nat_eq, min, if◌then◌else◌, List, [], ◌∷◌, ◌++◌}
use Rattle.std.specs.Prelude.{length, take, drop}
use Rattle.net_ring.specs.Overwrite.{overwrite}

-- what a contract sees of a ring: its storage, the index where it is read, and how many elements
-- are queued
pub record RingState (T : Type 0) : Type 0 where
  pub storage : List T
  pub read_at : ℕ
  pub count : ℕ

-- of a storage of c elements, the index that is i elements after the index r, wrapping at its end
abbrev pub index_after : ℕ → ℕ → ℕ → ℕ
index_after c r i = if nat_lt i (c - r) then r + i else i - (c - r)

-- the list from the index r on, followed by the elements before it
abbrev pub rotation : {T : Type 0} → List T → ℕ → List T
rotation b r = drop r b ++ take r b

module _ {T : Type 0} where
  -- the ring of a storage b, a read index r and n queued elements
  abbrev pub ring : List T → ℕ → ℕ → RingState T
  ring b r n = record { storage = b; read_at = r; count = n }

  -- how many elements the storage has
  abbrev pub capacity : RingState T → ℕ
  capacity g = length g.storage

  -- how many elements can still be enqueued
  abbrev pub window : RingState T → ℕ
  window g = length g.storage - g.count

  -- the read index is one of the storage, or 0 if that is empty; no more is queued than it has
  abbrev pub IsWellFormed : RingState T → Type 0
  IsWellFormed g =
      ((g.read_at ≡ 0) ⊎ (g.read_at < length g.storage)) × (g.count ≤ length g.storage)

  -- ---- the two parts of a ring
  -- the queued elements, the next one to be read first
  abbrev pub queue : RingState T → List T
  queue g = take g.count (rotation g.storage g.read_at)

  -- the free elements, the next one to be written first
  abbrev pub spare : RingState T → List T
  spare g = drop g.count (rotation g.storage g.read_at)

  -- ---- indices of the storage
  -- the index that is i elements after the read index, wrapping at the storage's end
  abbrev pub storage_index : RingState T → ℕ → ℕ
  storage_index g i = index_after (length g.storage) g.read_at i

  -- the index of the first spare element
  abbrev pub write_at : RingState T → ℕ
  write_at g = storage_index g g.count

  -- how many spare elements are contiguous, from the first one on
  abbrev pub contiguous_window : RingState T → ℕ
  contiguous_window g = min (window g) (length g.storage - write_at g)

  -- how many elements of the queue are contiguous, from the first one on
  abbrev pub contiguous_queued : RingState T → ℕ
  contiguous_queued g = min g.count (length g.storage - g.read_at)

  -- the contiguous elements at the beginning of the spare part
  abbrev pub contiguous_spare : RingState T → List T
  contiguous_spare g = take (contiguous_window g) (spare g)

  -- the contiguous elements at the head of the queue
  abbrev pub contiguous_queue : RingState T → List T
  contiguous_queue g = take (contiguous_queued g) (queue g)

  -- the index of element i of the spare part, or of its end if i is at or above the window
  abbrev pub spare_index : RingState T → ℕ → ℕ
  spare_index g i = storage_index g (g.count + min i (window g))

  -- of at most n spare elements from element i on, how many are contiguous; none if i is at or above
  -- the window
  abbrev pub contiguous_unallocated : RingState T → ℕ → ℕ → ℕ
  contiguous_unallocated g i n = min n (min (window g - i) (length g.storage - spare_index g i))

  -- the index of element i of the queue, or of its end if i is past the queue
  abbrev pub queue_index : RingState T → ℕ → ℕ
  queue_index g i = storage_index g (min i g.count)

  -- of at most n elements of the queue from element i on, how many are contiguous; none if i is
  -- past the queue
  abbrev pub contiguous_allocated : RingState T → ℕ → ℕ → ℕ
  contiguous_allocated g i n = min n (min (g.count - i) (length g.storage - queue_index g i))

  -- the index where the last k elements of the spare part begin: k elements before the read index
  abbrev pub last_dequeued_index : RingState T → ℕ → ℕ
  last_dequeued_index g k = storage_index g (length g.storage - k)

  -- ---- what calls leave
  -- ws is written over the storage from the index p on; what reaches past its end is cut off
  abbrev pub with_elements : RingState T → ℕ → List T → RingState T
  with_elements g p ws = ring (overwrite g.storage p ws) g.read_at g.count

  -- the same, and what reaches past the storage's end wraps to its beginning
  abbrev pub with_elements_wrapping : RingState T → ℕ → List T → RingState T
  with_elements_wrapping g p ws = with_elements (with_elements g p ws) 0 (drop (length g.storage - p) ws)

  -- k elements are enqueued as they are: the first k spare ones are the last k of the queue
  abbrev pub with_enqueued : ℕ → RingState T → RingState T
  with_enqueued k g = ring g.storage g.read_at (g.count + k)

  -- k elements are dequeued and stay in the storage: the first k of the queue are the last k spare
  -- ones
  abbrev pub with_dequeued : ℕ → RingState T → RingState T
  with_dequeued k g = ring g.storage (storage_index g k) (g.count - k)

  -- x is written over the first spare element, which is enqueued
  abbrev pub with_one_enqueued : RingState T → T → RingState T
  with_one_enqueued g x = with_elements (with_enqueued 1 g) (write_at g) (x ∷ [])

  -- the first element of the queue is dequeued, and x is written over it
  abbrev pub with_one_dequeued : RingState T → T → RingState T
  with_one_dequeued g x = with_elements (with_dequeued 1 g) g.read_at (x ∷ [])

  -- a ring with an empty queue is read from the storage's beginning on
  abbrev pub rewind_if_empty : RingState T → RingState T
  rewind_if_empty g = if nat_eq g.count 0 then ring g.storage 0 0 else g

  -- ---- the same by queue and spare part
  -- ws was appended to the queue, over the first spare elements
  abbrev pub Enqueues : RingState T → List T → RingState T → Type 0
  Enqueues g ws h =
      (queue h ≡ queue g ++ ws) × (spare h ≡ drop (length ws) (spare g))
      × (h.read_at ≡ g.read_at)

  -- the first k elements left the queue, and are ws at the end of the spare part
  abbrev pub Dequeues : RingState T → ℕ → List T → RingState T → Type 0
  Dequeues g k ws h =
      (queue h ≡ drop k (queue g)) × (spare h ≡ spare g ++ ws)
      × (h.read_at ≡ storage_index g k)

  -- ws is written over the spare part from its element i on
  abbrev pub WritesSpare : RingState T → ℕ → List T → RingState T → Type 0
  WritesSpare g i ws h =
      (queue h ≡ queue g) × (spare h ≡ overwrite (spare g) i ws)
      × (h.read_at ≡ g.read_at)

  -- ws is written over the queue from its element i on
  abbrev pub WritesQueue : RingState T → ℕ → List T → RingState T → Type 0
  WritesQueue g i ws h =
      (queue h ≡ overwrite (queue g) i ws) × (spare h ≡ spare g)
      × (h.read_at ≡ g.read_at)

  -- the list ws was written over the first spare elements, and its first k are put at the end of the queue
  abbrev pub EnqueuesFrom : RingState T → ℕ → List T → RingState T → Type 0
  EnqueuesFrom g k ws h =
      (queue h ≡ queue g ++ take k ws) × (spare h ≡ drop k (overwrite (spare g) 0 ws))
      × (h.read_at ≡ g.read_at)

  -- the list ws was written over the first elements of the queue, and its first k left the queue
  abbrev pub DequeuesFrom : RingState T → ℕ → List T → RingState T → Type 0
  DequeuesFrom g k ws h =
      (queue h ≡ drop k (overwrite (queue g) 0 ws)) × (spare h ≡ spare g ++ take k ws)
      × (h.read_at ≡ storage_index g k)
