use Rattle.net_receiver.proofs.Words.{◌≡◌, ◌++◌, map, take, drop}
use Rattle.net_receiver.proofs.held_runs.remember.Given as goal

-- the starts so far are written
abbrev pub invariant-loop-i : goal.invariant-loop-i
invariant-loop-i l = l.recent ≡ map (λ r. r.0) (take l.i l.listed) ++ drop l.i l.fn.recent
