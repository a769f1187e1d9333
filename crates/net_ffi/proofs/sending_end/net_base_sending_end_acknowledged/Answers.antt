use Rattle.std.proofs.Common.{refl, sym, ◌∙◌, rules, length}
use Rattle.net_receiver.specs.FiniteSender.{finite_sender_of}
use Rattle.net_ffi.specs.Retransmission.{given_or, bounds_of}
use Rattle.net_ffi.specs.SendingEnds.{ranges_of}
use Rattle.net_ffi.proofs.SendingEnds.{hears_c}
use Rattle.net_ffi.proofs.sending_end.net_base_sending_end_acknowledged.Goals as goal

pub returns-clause-value : goal.returns-clause-value
returns-clause-value c = λ sound few xs all.
    let it = c.args.end.now in
    let s = finite_sender_of it.sender xs in
    let timeout = given_or it.first_timeout 1000000 in
    let moment = c.moment.ensures ∙ search rules in
    let ack = c.args.announcement.now in (
      c.acknowledged-said.result,
      c.fields_of_acknowledged.ensures,
      hears_c (length it.runs) s (finite_sender_of c.acknowledge.new.sender xs) it.head c.acknowledged-said.new.self
          it.runs c.acknowledged-said.new.runs timeout c.bounds_from.result (bounds_of it.bounds) ack.seq ack.ack
          ack.window _ (ranges_of c.args.blocks.now) c.args.is_empty c.moment.result c.args.now c.acknowledged-said.result
          c.are_sixteen.ensures c.bounds_from.ensures c.ranges_of-ranges.ensures moment (c.acknowledge.ensures.step xs all)
          (c.acknowledged-said.ensures.hears s timeout (sym c.numbers_from-numbers.ensures)),
    )
