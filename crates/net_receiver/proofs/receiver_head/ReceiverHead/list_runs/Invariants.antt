use Rattle.std.proofs.Common.{◌≡◌, ◌∷◌, ◌≤◌, [], length, map, take, drop}
use Rattle.net_receiver.specs.{held_at, runs_of, newest_runs}
use Rattle.net_receiver.proofs.receiver_head.ReceiverHead.list_runs.Given as goal

-- the runs of the positions so far are listed
abbrev pub invariant-loop-i : goal.invariant-loop-i
invariant-loop-i l =
    let held = held_at l.self l.runs in
    let k = length l.fn.into in
    (l.count ≤ k) × (length l.into ≡ k) × (drop l.count l.into ≡ drop l.count l.fn.into)
    × (runs_of k held (take l.count l.into) (drop l.i l.recent) ≡ runs_of k held [] (l.position ∷ l.recent))

-- and then those of the runs so far
abbrev pub invariant-loop-start : goal.invariant-loop-start
invariant-loop-start l =
    let held = held_at l.self l.runs in
    let k = length l.fn.into in
    (goal.iterator-loop-start).can_next l.start-iterator
    × (goal.iterator-loop-start).is_finite l.start-iterator
    × (l.count ≤ k) × (length l.into ≡ k) × (drop l.count l.into ≡ drop l.count l.fn.into)
    × (runs_of k held (take l.count l.into) (map (λ r. r.0) l.start-iterator)
    ≡ newest_runs k held (l.position ∷ l.recent))
