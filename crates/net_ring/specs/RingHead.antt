-- The numbers of a ring apart from its storage, of which only the capacity c is known, and where elements are.
--     place r n, IsSound c p      the numbers, and what is true of those of a ring
--     ring_at xs p      the ring of a storage and these numbers
--     free_index c p i, queued_index c p i, contiguous_free c p      indices of the storage, and how many free
--         elements are contiguous
--     rewound p, enqueued_place k p, dequeued_place c k p      the numbers after calls
--     IsWithin c s      the elements of a span are in the storage
--     written_span xs s ws, elements_at xs s      a storage that is written over at a span, and what is there
use Rattle.std.specs.Prelude.{ℕ, ◌+◌, ◌-◌, ◌<◌, ◌≤◌, ◌≡◌, ◌⊎◌, min, nat_eq, if◌then◌else◌, List, ◌++◌, take, drop}
use Rattle.net_ring.specs.Overwrite.{overwrite}
use Rattle.net_ring.specs.Ring.{RingState, index_after, ring}
use Rattle.net_ring.specs.declared.head.RingHead.{RingHead}
use Rattle.net_ring.specs.declared.head.Span.{Span}

-- the read index r, and n queued elements
abbrev pub place : ℕ → ℕ → RingHead
place r n = record { read_at = r; length = n }

-- they are those of a ring of c elements: what `IsWellFormed` says of one
abbrev pub IsSound : ℕ → RingHead → Type 0
IsSound c p = ((p.read_at ≡ 0) ⊎ (p.read_at < c)) × (p.length ≤ c)

-- the index of element i of the spare part, or of its end
abbrev pub free_index : ℕ → RingHead → ℕ → ℕ
free_index c p i = index_after c p.read_at (p.length + min i (c - p.length))

-- the index of element i of the queue, or of its end
abbrev pub queued_index : ℕ → RingHead → ℕ → ℕ
queued_index c p i = index_after c p.read_at (min i p.length)

-- how many free elements are contiguous, from the first one on
abbrev pub contiguous_free : ℕ → RingHead → ℕ
contiguous_free c p = min (c - p.length) (c - index_after c p.read_at p.length)

-- a ring with an empty queue is read from the storage's beginning on
abbrev pub rewound : RingHead → RingHead
rewound p = if nat_eq p.length 0 then place 0 0 else p

-- k more elements are queued
abbrev pub enqueued_place : ℕ → RingHead → RingHead
enqueued_place k p = place p.read_at (p.length + k)

-- the first k elements left the queue
abbrev pub dequeued_place : ℕ → ℕ → RingHead → RingHead
dequeued_place c k p = place (index_after c p.read_at k) (p.length - k)

-- the elements of a span are in a storage of c elements
abbrev pub IsWithin : ℕ → Span → Type 0
IsWithin c s = (s.from + s.contiguous ≤ c) × (s.contiguous ≤ s.count) × (s.count - s.contiguous ≤ c)

module _ {T : Type 0} where
  -- the ring of the storage xs with these numbers
  abbrev pub ring_at : List T → RingHead → RingState T
  ring_at xs p = ring xs p.read_at p.length

  -- ws is written over the elements of a span: its contiguous ones, and the rest at the beginning
  abbrev pub written_span : List T → Span → List T → List T
  written_span xs s ws = overwrite (overwrite xs s.from (take s.contiguous ws)) 0 (drop s.contiguous ws)

  -- the elements of a span, in order
  abbrev pub elements_at : List T → Span → List T
  elements_at xs s = take s.contiguous (drop s.from xs) ++ take (s.count - s.contiguous) xs
