use Rattle.std.proofs.Common.{sym}
use Rattle.std.proofs.lemmas.Bool.{false≢true}
use Rattle.net_packets.proofs.HeadQueue.{both_steps}
use Rattle.net_packets.proofs.head.PacketsHead.take_first.Goals as goal

pub returns-clause-none : goal.returns-clause-none
returns-clause-none c = (
  λ e h. false≢true (sym e),
  both_steps c.args.capacity c.args.self.now c.args.slots.now c.skip_gap.new.self c.in_ok-gap.ensures.skipped
      c.in_ok-gap.ensures.none.1
      (λ e. false≢true (sym e)) c.in_ok-packet.ensures.none.1,
)
