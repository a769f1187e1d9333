use Rattle.net_receiver.proofs.Words.{arith, nat_tests, common_steps, ◌≡◌, ◌∙◌, ap, length, lent_whole, finite_of}
use Rattle.net_receiver.specs.{finite_after}
use Rattle.net_receiver.specs.StreamState.{StreamState}
use Rattle.net_receiver.proofs.stream_receiver.StreamReceiverOver.keep.Given as given
use Rattle.net_receiver.proofs.stream_receiver.StreamReceiverOver.keep.Goals as goal

-- both storages, lent whole
bytes_lent : (g : given.Over) (c : goal.After-self-2-1 g) →
    c.part_mut-storage.result.now ≡ g.S.Storage.elements c.self.inside.storage
bytes_lent g c =
    (lent_whole c.count-count.result (g.S.Storage.elements c.self.inside.storage) _ c.keep.new.storage
    c.count-count.ensures c.part_mut-storage.ensures.value c.keep.auto.storage).0

runs_lent : (g : given.Over) (c : goal.After-self-2-1 g) →
    c.part_mut-runs.result.now ≡ g.R.Storage.elements c.self.inside.runs
runs_lent g c =
    (lent_whole c.count-count-2.result (g.R.Storage.elements c.self.inside.runs) _ c.keep.new.runs
    c.count-count-2.ensures c.part_mut-runs.ensures.value c.keep.auto.runs).0

-- what they have then
bytes_left : (g : given.Over) (c : goal.After-self-2-1 g) →
    g.S.Storage.elements (g.S.Storage.with_part c.self.inside.storage 0 c.keep.new.storage) ≡ c.keep.new.storage
bytes_left g c =
    g.met.S.Storage.part_written c.self.inside.storage 0 c.keep.new.storage
    ∙ (lent_whole c.count-count.result (g.S.Storage.elements c.self.inside.storage) _ c.keep.new.storage
    c.count-count.ensures c.part_mut-storage.ensures.value c.keep.auto.storage).1

runs_left : (g : given.Over) (c : goal.After-self-2-1 g) →
    g.R.Storage.elements (g.R.Storage.with_part c.self.inside.runs 0 c.keep.new.runs) ≡ c.keep.new.runs
runs_left g c =
    g.met.R.Storage.part_written c.self.inside.runs 0 c.keep.new.runs
    ∙ (lent_whole c.count-count-2.result (g.R.Storage.elements c.self.inside.runs) _ c.keep.new.runs
    c.count-count-2.ensures c.part_mut-runs.ensures.value c.keep.auto.runs).1

pub invariant_of-self : goal.invariant_of-self
invariant_of-self g c = grind (arith, nat_tests, common_steps, c.keep.ensures.sound, runs_left, bytes_left)

pub returns-clause-runs : goal.returns-clause-runs
returns-clause-runs g c =
    ap length (runs_left g c) ∙ c.keep.auto.runs ∙ ap length (runs_lent g c)
    ∙ ap (λ (s : StreamState). s.most_runs) c.self.view_is

pub returns-clause-state : goal.returns-clause-state
returns-clause-state g c =
    let h = c.self.inside.head in
    let pos = c.args.pos in
    let xs = c.args.bytes.now in
    (λ k. finite_of c.keep.new.self (bytes_left g c k) (runs_left g c k))
    ∙ c.keep.ensures.state
    ∙ (λ k. finite_after (length (runs_lent g c k)) (finite_of h (bytes_lent g c k) (runs_lent g c k)) pos xs
    c.args.fin)
    ∙ ap (λ (s : StreamState). finite_after s.most_runs s.stream pos xs c.args.fin) c.self.view_is
