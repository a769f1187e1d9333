-- A ring of which each end keeps a count of its own, and reads the other's.
--     IsCount c i, AreCounts c s      what is true of a count, and of the two that an end knows
--     count_after c i n, ahead c i j, index_of c i      counts and indices of the storage
--     seen c t w, counts w t      the head that an end knows
--     SplitState T, Step T, after_step, after_steps, fresh xs      the machine
--     IsOfWriter v, IsOfReader v      the steps of one end
--     writer s, reader s, whole s      the ring as each end knows it, and as it is
use Rattle.std.specs.Prelude.{◌≡◌, ℕ, ◌+◌, ◌-◌, ◌<◌, ◌≤◌, ◌⊎◌, nat_lt, nat_le, min, if◌then◌else◌, List, [], ◌∷◌}
use Rattle.std.specs.Prelude.{◌++◌, length, take}
use Rattle.net_ring.specs.Width.{IsUsize}
use Rattle.net_ring.specs.Ring.{RingState, index_after, queue, spare, window, spare_index, with_elements_wrapping}
use Rattle.net_ring.specs.RingHead.{place, ring_at}
use Rattle.net_ring.specs.declared.head.RingHead.{RingHead}
use Rattle.net_ring.specs.declared.split_counts.SplitCounts.{SplitCounts}

-- ---- counts
-- a count goes round at twice the capacity
abbrev pub IsCount : ℕ → ℕ → Type 0
IsCount c i = (i ≡ 0) ⊎ (i < c + c)

-- the count n elements after i
abbrev pub count_after : ℕ → ℕ → ℕ → ℕ
count_after c i n = index_after (c + c) i n

-- how far j is ahead of i
abbrev pub ahead : ℕ → ℕ → ℕ → ℕ
ahead c i j = if nat_le i j then j - i else c + c - i + j

-- the index of the storage where the element of a count is
abbrev pub index_of : ℕ → ℕ → ℕ
index_of c i = if nat_lt i c then i else i - c

-- the head of a ring from which t elements were taken, and to which w were written
abbrev pub seen : ℕ → ℕ → ℕ → RingHead
seen c t w = place (index_of c t) (ahead c t w)

abbrev pub counts : ℕ → ℕ → SplitCounts
counts w t = record { written = w; taken = t }

-- the two counts that an end knows
abbrev pub AreCounts : ℕ → SplitCounts → Type 0
AreCounts c s = IsUsize (c + c) × IsCount c s.written × IsCount c s.taken × (ahead c s.taken s.written ≤ c)

-- ---- the machine
-- the storage, the two counts, and what each end last read of the other's; what was written and counted, and what
-- was taken
pub record SplitState (T : Type 0) : Type 0 where
  pub capacity : ℕ
  pub storage : List T
  pub written : ℕ
  pub taken : ℕ
  pub taken_seen : ℕ
  pub written_seen : ℕ
  pub accepted : List T
  pub left : List T

-- a step of one end. A look gives any value that the other's count had since the last one, which was k elements on:
-- all that it wrote, or less. Elements are written to the free ones from the element i on, in any parts and order,
-- and counted later
pub data Step (T : Type 0) : Type 0 where
  LooksForRoom : ℕ → Step T
  Writes : ℕ → List T → Step T
  Counts : ℕ → Step T
  LooksForElements : ℕ → Step T
  Takes : ℕ → Step T

-- the steps of one end
abbrev pub IsOfWriter : {T : Type 0} → Step T → Type 0
IsOfWriter (LooksForElements k) = ⊥
IsOfWriter (Takes n) = ⊥
IsOfWriter _ = Unit {0}

abbrev pub IsOfReader : {T : Type 0} → Step T → Type 0
IsOfReader (LooksForElements k) = Unit {0}
IsOfReader (Takes n) = Unit {0}
IsOfReader _ = ⊥

module _ {T : Type 0} where
  -- the ring as the end that writes knows it, as the one that reads does, and as it is
  abbrev pub writer : SplitState T → RingState T
  writer s = ring_at s.storage (seen s.capacity s.taken_seen s.written)

  abbrev pub reader : SplitState T → RingState T
  reader s = ring_at s.storage (seen s.capacity s.taken s.written_seen)

  abbrev pub whole : SplitState T → RingState T
  whole s = ring_at s.storage (seen s.capacity s.taken s.written)

  abbrev pub fresh : List T → SplitState T
  fresh xs = record {
    capacity = length xs;
    storage = xs;
    written = 0;
    taken = 0;
    taken_seen = 0;
    written_seen = 0;
    accepted = [];
    left = [];
  }

  -- the writes of an end that knows the ring g
  abbrev pub written_over : RingState T → ℕ → List T → List T
  written_over g i xs = (with_elements_wrapping g (spare_index g i) (take (window g - i) xs)).storage

  abbrev pub after_step : SplitState T → Step T → SplitState T
  after_step s (LooksForRoom k) = record s {
    taken_seen = count_after s.capacity s.taken_seen (min k (ahead s.capacity s.taken_seen s.taken));
  }
  after_step s (Writes i xs) = record s { storage = written_over (writer s) i xs }
  after_step s (Counts n) = record s {
    written = count_after s.capacity s.written (min n (window (writer s)));
    accepted = s.accepted ++ take (min n (window (writer s))) (spare (writer s));
  }
  after_step s (LooksForElements k) = record s {
    written_seen = count_after s.capacity s.written_seen (min k (ahead s.capacity s.written_seen s.written));
  }
  after_step s (Takes n) = record s {
    taken = count_after s.capacity s.taken (min n (reader s).count);
    left = s.left ++ take (min n (reader s).count) (queue (reader s));
  }

  abbrev pub after_steps : SplitState T → List (Step T) → SplitState T
  after_steps s [] = s
  after_steps s (v ∷ vs) = after_steps (after_step s v) vs
