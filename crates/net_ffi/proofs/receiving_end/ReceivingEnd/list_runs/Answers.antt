use Rattle.std.proofs.Common.{◌≤◌, ◌≡◌, ◌∷◌, length, ap, sym, ◌∙◌, arith}
use Rattle.std.proofs.lemmas.List.{length-take-le}
use Rattle.net_receiver.specs.NewestRuns.{newest_runs, with_starts}
use Rattle.net_receiver.proofs.Heads.{held_is}
use Rattle.net_ffi.specs.ReceivingEnds.{fields_of}
use Rattle.net_ffi.proofs.ReceivingEnds.{fields_are}
use Rattle.net_ffi.proofs.receiving_end.ReceivingEnd.list_runs.Goals as goal

pub returns-clause-recent : goal.returns-clause-recent
returns-clause-recent c = λ storage sound.
    let it = c.args.self.now.head in
    let list = c.newest_runs-count.ensures.listed
    ∙ ap (λ held. newest_runs 4 held (it.newest ∷ it.recent)) (held_is storage sound.parts) in
    c.newest_runs-count.ensures.recent ∙ ap (with_starts it.recent) list

pub returns-clause-value : goal.returns-clause-value
returns-clause-value c = λ storage sound.
    let it = c.args.self.now.head in
    let count = c.newest_runs-count.result in let into = c.newest_runs-count.new.into in
    let list = c.newest_runs-count.ensures.listed
    ∙ ap (λ held. newest_runs 4 held (it.newest ∷ it.recent)) (held_is storage sound.parts) in
    let four : length into ≡ 4 = c.newest_runs-count.auto.into in
    let few : count ≤ length into = omega (arith, four, c.newest_runs-count.ensures.count) in
    let fields = fields_are count into four c.newest_runs-count.ensures.count c.newest_runs-count.ensures.rest in
    (fields ∙ ap fields_of list, sym (length-take-le count into few) ∙ ap length list)
