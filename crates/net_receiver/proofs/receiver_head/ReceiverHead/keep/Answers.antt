use Rattle.std.proofs.Common.{arith, refl, sym, ◌∙◌}
use Rattle.net_receiver.proofs.Heads.{back_view, part_written}
use Rattle.net_receiver.proofs.receiver_head.ReceiverHead.keep.Goals as goal

pub returns-clause-stored : goal.returns-clause-stored
returns-clause-stored c =
    part_written c.args.self.now c.args.storage.now c.args.bytes.now c.in_ok-it.it c.write_unallocated.new.storage
    c.write_unallocated.result
    (omega (arith, c.if-it-eq0.false)) c.in_ok-it.ensures.within.0 c.in_ok-it.ensures.within.1
    c.write_unallocated.ensures.count c.write_unallocated.ensures.ring
    ∙ sym (c.in_ok-it.ensures.stored c.args.storage.now c.args.bytes.now refl refl)

pub returns-clause-state : goal.returns-clause-state
returns-clause-state c =
    back_view _ _ _ _ (sym (returns-clause-stored c)) _
    (c.in_ok-it.ensures.state c.args.storage.now c.args.bytes.now refl refl)
