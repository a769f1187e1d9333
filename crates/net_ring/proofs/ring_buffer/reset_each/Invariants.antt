use Rattle.std.proofs.Common.{◌≡◌, take, drop}
use Rattle.std.specs.List.{AllZip}
use Rattle.net_ring.proofs.ring_buffer.reset_each.Given as goal

-- the elements before the index are reset, and the others are as they were
abbrev pub invariant-loop-element : goal.invariant-loop-element
invariant-loop-element g l =
    AllZip g.T.Resettable.IsReset (take l.element-index l.fn.elements) (take l.element-index l.elements)
    × (drop l.element-index l.elements ≡ drop l.element-index l.fn.elements)
