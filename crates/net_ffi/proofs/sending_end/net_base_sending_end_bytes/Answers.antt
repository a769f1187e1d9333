use Rattle.std.proofs.Common.{arith}
use Rattle.net_ffi.proofs.SendingSteps.{lent_fits, parts_are}
use Rattle.net_ffi.proofs.sending_end.net_base_sending_end_bytes.Goals as goal

pub overflow_add-after : goal.overflow_add-after
overflow_add-after c = (let below = lent_fits _ _ _ _ _ _ _ _ c.peek_at-ends.ensures in omega (arith, below, c.ranges))

pub returns-clause-value : goal.returns-clause-value
returns-clause-value c = λ sound xs all.
    parts_are _ _ _ _ _ _ _ _ _ _ _ _ xs all c.peek_at-ends.ensures c.peek_at-is_last.ensures
