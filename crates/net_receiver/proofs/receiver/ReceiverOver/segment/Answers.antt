use Rattle.net_receiver.proofs.Words.{◌∙◌, ap}
use Rattle.std.proofs.Common.{ap₂, Ok}
use Rattle.net_receiver.specs.ReceiverState.{with_sack, domain}
use Rattle.net_receiver.proofs.OneStream.{in_order}
use Rattle.net_receiver.proofs.receiver.ReceiverOver.segment.Goals as goal

pub returns-clause-in_order : goal.returns-clause-in_order
returns-clause-in_order g c = in_order g.row.N c.args.self.now _ c.args.pos c.args.bytes.now _ c.keep_part.ensures.state
    ((λ i. Ok (record {
      kept = c.in_ok-bytes.bytes.kept;
      queued = c.in_ok-bytes.bytes.queued;
      sack =
          c.first_runs-sack.ensures i;
    }))
    ∙ ap₂ with_sack c.in_ok-bytes.ensures.counts (ap (λ u. domain u.held) c.keep_part.ensures.state))
