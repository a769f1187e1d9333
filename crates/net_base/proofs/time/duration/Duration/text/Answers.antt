use Rattle.std.proofs.Common.{arith, append_assoc}
use Rattle.net_base.proofs.Moments.{styled_unsigned, text_written}
use Rattle.net_base.proofs.time.duration.Duration.text.Goals as goal

pub returns : goal.returns
returns c = grind (arith, text_written, append_assoc, styled_unsigned)
