-- Lists that are written over.
use Rattle.std.specs.Prelude.{◌≡◌, ℕ, ◌+◌, ◌-◌, ◌<◌, ◌&&◌, nat_le, nat_lt, if◌then◌else◌, List, ◌++◌, length, take}
use Rattle.std.specs.Prelude.{drop, slice_index_or}

module _ {X : Type 0} where
  -- xs with ws written over its elements from the index i on. What reaches past the end is cut off
  abbrev pub overwrite : List X → ℕ → List X → List X
  overwrite xs i ws = take (length xs) (take i xs ++ (ws ++ drop (length ws) (drop i xs)))

  -- the element k is the one of ws that was written there, and otherwise the one that xs has. A
  -- read past a list's end gives x, so that the statement holds of each element there is
  abbrev pub OverwritesAt : List X → ℕ → List X → ℕ → X → Type 0
  OverwritesAt xs i ws k x = k < length xs → slice_index_or (overwrite xs i ws) k x
      ≡ (if nat_le i k && nat_lt k (i + length ws) then slice_index_or ws (k - i) x
      else slice_index_or xs k x)
