use Rattle.std.proofs.Common.{◌≡◌, ◌<◌, ℕ, false, get_or, is_none}
use Rattle.net_base.proofs.storage.fragments.table.find_free.Given as goal

-- each slot before the index has a key
abbrev pub invariant-loop-at : goal.invariant-loop-at
invariant-loop-at g l = (k : ℕ) (d : _) → k < l.at → is_none (get_or l.fn.slots k d).key ≡ false
