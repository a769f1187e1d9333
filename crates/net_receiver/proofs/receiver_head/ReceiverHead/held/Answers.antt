use Rattle.std.proofs.Common.{◌<◌, ◌≤◌, ◌+◌, ℕ, All, sym, subst, ◌∙◌}
use Rattle.net_receiver.specs.{next_at}
use Rattle.net_receiver.proofs.Heads.{held_are, held_end, held_begin, held_end_within}
use Rattle.net_receiver.proofs.receiver_head.ReceiverHead.held.Goals as goal

pub over-requires : goal.over-requires
over-requires c = held_end c.requires _ _ c.next.ensures c.iter_data.ensures.runs

pub returns-clause-runs : goal.returns-clause-runs
returns-clause-runs c = c.over.ensures ∙ held_are c.requires _ _ c.next.ensures c.iter_data.ensures.runs

pub returns-clause-above : goal.returns-clause-above
returns-clause-above c =
    let n = next_at c.args.self.now in
    subst (All (λ (r : ℕ × ℕ). (n < r.0) × (r.0 < r.1))) (sym (returns-clause-runs c)) (held_begin c.requires)

pub returns-clause-within : goal.returns-clause-within
returns-clause-within c = λ capacity sound.
    let limit = c.args.self.now.first + c.args.self.now.count_read + capacity in
    subst (All (λ (r : ℕ × ℕ). r.1 ≤ limit)) (sym (returns-clause-runs c)) (held_end_within sound)
