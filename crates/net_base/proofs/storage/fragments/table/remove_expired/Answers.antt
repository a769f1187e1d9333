use Rattle.std.proofs.Common.{◌≡◌, ◌<ℤ◌, arith}
use Rattle.std.specs.declared.option.Option.TheVariants.{None}
use Rattle.net_ring.proofs.RingFacts.{reset_more}
use Rattle.net_base.proofs.storage.fragments.table.remove_expired.Goals as goal

pub loop-slot-preserved : goal.loop-slot-preserved
loop-slot-preserved g c =
    let met = c.expire.ensures in
    reset_more (λ s t. (s.buffer.expires_at <ℤ c.args.now → t.key ≡ None)
    × ((s.buffer.expires_at <ℤ c.args.now → ⊥) → t.key ≡ s.key) × (t.buffer ≡ s.buffer))
    c.args.slots.now c.loop-slot.slots c.loop-slot.slot-index c.slot-item.result c.expire.new.self
    (omega (arith, c.loop-slot-test.true, c.loop-slot.auto.slots)) c.slot-item.is c.loop-slot.invariant
    (met.expired, met.kept, met.buffer)
