use Rattle.std.proofs.Common.{rules, arith}
use Rattle.net_ring.proofs.RingFacts.{reset_more, all_reset}
use Rattle.net_ring.proofs.ring_buffer.reset_each.Goals as goal

pub loop-element-preserved : goal.loop-element-preserved
loop-element-preserved g c =
    reset_more g.T.Resettable.IsReset c.args.elements.now c.loop-element.elements c.loop-element.element-index
    c.element-item.result _
    (omega (arith, c.loop-element-test.true, c.loop-element.auto.elements)) c.element-item.is
    c.loop-element.invariant (search rules)

pub returns : goal.returns
returns g c = all_reset g.T.Resettable.IsReset c.args.elements.now c.loop-element.elements c.loop-element.element-index
    c.loop-element-test.false c.loop-element.auto.elements c.loop-element.invariant.0
