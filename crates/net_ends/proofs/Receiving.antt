-- What an end at which segments arrive keeps, whatever happens to it.
use Rattle.std.proofs.Common.{◌≡◌, arith}
use Rattle.std.specs.Prelude.{length}
use Rattle.net_receiver.specs.ReceiverState.{ReceiverState, contiguous_count, contiguous_count_from}

-- the first part of a queue is what is contiguous from its first byte on
pub from_first : (v : ReceiverState) → contiguous_count_from v 0 (length v.queue) ≡ contiguous_count v
from_first v = grind arith
