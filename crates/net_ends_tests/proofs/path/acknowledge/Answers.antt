use Rattle.std.proofs.Common.{sym, subst}
use Rattle.net_ends.specs.Ends.{End, reports_of}
use Rattle.net_ends_tests.specs.Path.{IsWriting}
use Rattle.net_ends_tests.proofs.PathFacts.{heard_writes}
use Rattle.net_ends_tests.proofs.path.acknowledge.Goals as goal

pub returns : goal.returns
returns c = λ text n is.
    let e = c.acknowledged-taken.new.self in
    subst (λ (e : End). IsWriting text n e.sender) (sym c.acknowledged-taken.ensures.step)
    (heard_writes c.sending_ends.ensures.refines c.finite_senders.ensures.sound c.finite_senders.ensures.closed text n
    c.args.sender.now e.reported e.recovery (reports_of c.acknowledged-taken.result) c.args.it.seq c.args.it.ack
    c.args.it.window c.args.now is)
