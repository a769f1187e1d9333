use Rattle.std.proofs.Common.{◌≡◌, ◌<◌, ℕ, false, get_or}
use Rattle.net_base.specs.Fragments.{is_for}
use Rattle.net_base.proofs.storage.fragments.table.find.Given as goal

-- no slot before the index is for the packet
abbrev pub invariant-loop-at : goal.invariant-loop-at
invariant-loop-at g l = (k : ℕ) (d : _) → k < l.at →
    is_for g.K.PartialEq.eq l.fn.key (get_or l.fn.slots k d).key ≡ false
