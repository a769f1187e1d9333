use Rattle.net_ring.specs.SplitRing.{fresh, after_steps}
use Rattle.net_ring.proofs.SplitSteps.{holds, shown, kept, written, lent_to_read, sound}
use Rattle.net_ring.proofs.split_counts.laws.ends_run_apart.Goals as goal

pub returns-clause-order : goal.returns-clause-order
returns-clause-order g c = λ xs vs. (holds xs vs).turn

pub returns-clause-shown : goal.returns-clause-shown
returns-clause-shown g c = λ xs vs. shown (after_steps (fresh xs) vs) (holds xs vs)

pub returns-clause-kept : goal.returns-clause-kept
returns-clause-kept g c = λ xs vs i ws. kept (after_steps (fresh xs) vs) (holds xs vs) i ws

pub returns-clause-written : goal.returns-clause-written
returns-clause-written g c = λ xs vs i ws. written (after_steps (fresh xs) vs) (holds xs vs) i ws

pub returns-clause-lent_to_read : goal.returns-clause-lent_to_read
returns-clause-lent_to_read g c = λ xs steps vs own. lent_to_read (after_steps (fresh xs) steps) vs (holds xs steps) own

pub returns-clause-sound : goal.returns-clause-sound
returns-clause-sound g c = λ xs vs fits. sound xs vs fits
