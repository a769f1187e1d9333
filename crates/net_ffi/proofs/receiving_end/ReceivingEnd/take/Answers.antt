use Rattle.std.proofs.Common.{◌+◌, length, min, ap, ◌∙◌, arith}
use Rattle.std.specs.Prelude.{◌&&◌, nat_eq, not, if◌then◌else◌}
use Rattle.net_receiver.specs.Finite.{finite_result, finite_after}
use Rattle.net_receiver.specs.FiniteHead.{finite_of}
use Rattle.net_ends.specs.Receiving.{adds}
use Rattle.net_ends.specs.ReceivingRules.{receiving_of as end_of}
use Rattle.net_ends.specs.declared.receiving_end.ReceivingHead.{ReceivingHead}
use Rattle.net_ffi.specs.ReceivingEnds.{waits_of}
use Rattle.net_ffi.proofs.ReceivingEnds.{held_is_used, waits_after}
use Rattle.net_ffi.proofs.receiving_end.ReceivingEnd.take.Goals as goal

-- The receiver keeps the segment, and what is told of it is by that alone.
pub returns-clause-value : goal.returns-clause-value
returns-clause-value c =
    let it = c.args.self.now in
    c.keep-kept.ensures.value
    ∙ (λ i. finite_result (c.are_sixteen.ensures i) (finite_of it.receiver c.args.storage.now it.runs) c.args.pos
    c.args.bytes.now c.args.is_last)

pub returns-clause-twice : goal.returns-clause-twice
returns-clause-twice c =
    waits_after c.args.self.now c.args.storage.now c.requires c.args.pos (length c.args.bytes.now)
    c.saturating_add-end.result (omega (arith, c.saturating_add-end.ensures, c.ranges.pos.fits))
    c.duplicate_of-part.result _ c.duplicate_of-part.ensures c.take.ensures.part

pub returns-clause-step : goal.returns-clause-step
returns-clause-step c =
    let it = c.args.self.now in
    let kept = c.keep-kept.ensures.state
    ∙ (λ i. finite_after (c.are_sixteen.ensures i) (finite_of it.receiver c.args.storage.now it.runs) c.args.pos
    c.args.bytes.now c.args.is_last) in
    let used = held_is_used c.args.storage.now c.requires in
    let left = c.take.new.self in
    ap (λ (h : ReceivingHead). end_of (finite_of c.keep-kept.new.self c.keep-kept.new.storage c.keep-kept.new.runs) h)
    c.take.ensures.rest
    ∙ (λ i. record {
      receiver = kept i;
      edge = it.head.advertised.edge;
      scale = it.head.scale;
      size = it.head.segment_size;
      newest = c.args.pos;
      recent = it.head.recent;
      duplicate = waits_of (record it { head = left });
      unanswered = if nat_eq (used i) 0 && not c.args.is_last && adds (returns-clause-value c i)
          then min (it.head.unanswered + 1) 2 else 2;
    })
