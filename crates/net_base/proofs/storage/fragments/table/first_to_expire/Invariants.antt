use Rattle.net_base.proofs.FragmentFacts.{EarliestBelow}
use Rattle.net_base.proofs.storage.fragments.table.first_to_expire.Given as goal

-- of the slots before the index none expires earlier
abbrev pub invariant-loop-at : goal.invariant-loop-at
invariant-loop-at g l = EarliestBelow (λ s. s.buffer.expires_at) l.fn.slots l.at l.first
