use Rattle.net_receiver.proofs.Words.{◌≡◌, ◌∙◌, arith, length, length-take, map, sym, take, ℕ}
use Rattle.net_receiver.specs.{held_at}
use Rattle.net_receiver.proofs.NewestRuns.{full_list}
use Rattle.net_receiver.proofs.receiver_head.ReceiverHead.list_runs.Goals as goal

pub returns-then-count-into-clause-listed : goal.returns-then-count-into-clause-listed
returns-then-count-into-clause-listed c =
    let listed = take c.loop-start.count c.loop-start.into in
    let full : length listed ≡ length c.args.into.now =
    omega (arith, length-take c.loop-start.count c.loop-start.into, c.if-count-into.true, c.loop-start.invariant.3) in
    sym (full_list (length c.args.into.now) (held_at c.args.self.now c.args.runs.now) listed
    (map (λ (r : ℕ × ℕ). r.0) c.loop-start.start-iterator) full)
    ∙ c.loop-start.invariant.5
