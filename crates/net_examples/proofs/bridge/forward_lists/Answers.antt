use Rattle.std.proofs.lemmas.Result.{IfOk-weaker, on_err_weaker}
use Rattle.net_examples.proofs.FrameFacts.{passed_lists, passed_count, lost_lists}
use Rattle.net_examples.proofs.bridge.forward_lists.Goals as goal

pub returns-clause-lists : goal.returns-clause-lists
returns-clause-lists g c =
    let a = g.met.A.FrameLists in
    IfOk-weaker c.forward.result _ _
    (λ n h. passed_lists _ _ _ _ _ _ _ a.takes_first a.keeps_all g.met.B.FrameLists.sends_last _ n _ _ _ _ h.1)
    c.forward.ensures.forwarded

pub returns-clause-count : goal.returns-clause-count
returns-clause-count g c =
    let a = g.met.A.FrameLists in
    IfOk-weaker c.forward.result _ _
    (λ n h. passed_count _ _ _ _ _ _ g.B.FrameLists.outgoing a.takes_first a.keeps_all _ n _ _ _ _ h.1)
    c.forward.ensures.forwarded

pub returns-clause-lost : goal.returns-clause-lost
returns-clause-lost g c =
    on_err_weaker c.forward.result
    (lost_lists _ _ _ _ _ g.met.A.FrameLists.takes_first g.met.B.FrameLists.sends_last _ _ _ _ _)
    c.forward.ensures.err
