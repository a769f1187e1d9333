use Rattle.std.proofs.Common.{◌≡◌, ◌<ℤ◌, take, drop}
use Rattle.std.specs.declared.option.Option.TheVariants.{None}
use Rattle.std.specs.List.{AllZip}
use Rattle.net_base.proofs.storage.fragments.table.remove_expired.Given as goal

-- the slots before the index are past `now`, and the others are as they were
abbrev pub invariant-loop-slot : goal.invariant-loop-slot
invariant-loop-slot g l =
    AllZip (λ s t. (s.buffer.expires_at <ℤ l.fn.now → t.key ≡ None)
    × ((s.buffer.expires_at <ℤ l.fn.now → ⊥) → t.key ≡ s.key) × (t.buffer ≡ s.buffer))
    (take l.slot-index l.fn.slots) (take l.slot-index l.slots)
    × (drop l.slot-index l.slots ≡ drop l.slot-index l.fn.slots)
