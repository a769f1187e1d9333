use Rattle.net_bench_lib.proofs.StreamOutcomes.{closing_line}
use Rattle.net_bench_lib.proofs.stream.StreamSessionSession.closing_text.Goals as goal

pub returns-in-Some : goal.returns-in-Some
returns-in-Some g c = closing_line _ _ c.self.view_is _ _ _ c.in-Some.is c.same_state.ensures.exact c.if-same_state.true

pub returns-in-Some-2 : goal.returns-in-Some-2
returns-in-Some-2 g c = closing_line _ _ c.self.view_is _ _ _ c.in-Some.is c.same_state.ensures.exact
    c.if-same_state.false
