use Rattle.std.proofs.Common.{refl, sym, ◌∙◌, rules, Some, None}
use Rattle.net_receiver.specs.FiniteSender.{finite_sender_of}
use Rattle.net_ffi.specs.Retransmission.{given_or, bounds_of}
use Rattle.net_ffi.proofs.SendingEnds.{chooses_c}
use Rattle.net_ffi.proofs.sending_end.net_base_sending_end_next_segment.Goals as goal

pub returns-in-None-clause-value : goal.returns-in-None-clause-value
returns-in-None-clause-value c = λ sound xs all.
    let it = c.args.end.now in
    let s = finite_sender_of it.sender xs in
    let timeout = given_or it.first_timeout 1000000 in
    let moment = c.moment.ensures ∙ search rules in (
      None,
      c.no_segment.ensures,
      chooses_c s s it.head c.next_segment-said.new.self it.runs timeout c.bounds_from.result (bounds_of it.bounds)
          c.args.congestion_window c.moment.result c.args.now c.next_segment-said.result None c.bounds_from.ensures
          moment c.in-None.is refl
          (c.next_segment-said.ensures.chooses s timeout (sym (c.queued_from-queued.ensures.value xs all))),
    )

pub returns-in-Some-clause-value : goal.returns-in-Some-clause-value
returns-in-Some-clause-value c = λ sound xs all.
    let it = c.args.end.now in
    let s = finite_sender_of it.sender xs in
    let timeout = given_or it.first_timeout 1000000 in
    let moment = c.moment.ensures ∙ search rules in (
      Some c.in-Some.it,
      c.fields_of_outgoing.ensures,
      chooses_c s (finite_sender_of c.mark.new.sender xs) it.head c.next_segment-said.new.self it.runs timeout
          c.bounds_from.result (bounds_of it.bounds) c.args.congestion_window c.moment.result c.args.now
          c.next_segment-said.result (Some c.in-Some.it) c.bounds_from.ensures moment c.in-Some.is
          (c.mark.ensures.step xs all)
          (c.next_segment-said.ensures.chooses s timeout (sym (c.queued_from-queued.ensures.value xs all))),
    )
