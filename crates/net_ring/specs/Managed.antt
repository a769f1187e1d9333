-- The elements of lent or owned storage.
--     elements s      the elements
--     with_part s i ws, with_element s i x      the storage with some of them, or one, written over
use Rattle.std.specs.Prelude.{List, ℕ, slice_set}
use denote.MutBor.{at_last}
use Rattle.std.specs.Vec.{with_items_from, with_item as vec_with_item}
use Rattle.net_ring.specs.Overwrite.{overwrite}
use Rattle.net_ring.specs.declared.managed.ManagedSlice.{ManagedSlice}
use Rattle.net_ring.specs.declared.managed.ManagedSlice.TheVariants.{Borrowed, Owned}

module _ {T : Type 0} where
  -- the elements of the storage, in order
  abbrev pub elements : ManagedSlice T → List T
  elements (Borrowed s) = s.now
  elements (Owned v) = v.items

  -- the storage with ws written over its elements from the index i on
  abbrev pub with_part : ManagedSlice T → ℕ → List T → ManagedSlice T
  with_part (Borrowed s) i ws = Borrowed (at_last s (overwrite s.now i ws))
  with_part (Owned v) i ws = Owned (with_items_from v i ws)

  -- the storage with one element replaced
  abbrev pub with_element : ManagedSlice T → ℕ → T → ManagedSlice T
  with_element (Borrowed s) i x = Borrowed (at_last s (slice_set s.now i x))
  with_element (Owned v) i x = Owned (vec_with_item v i x)
