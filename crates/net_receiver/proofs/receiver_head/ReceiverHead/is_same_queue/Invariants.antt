use Rattle.std.proofs.Common.{◌≡◌, ◌-◌, ◌≤◌, take}
use Rattle.net_ring.specs.RingHead.{ring_at}
use Rattle.net_ring.specs.Ring.{queue}
use Rattle.net_receiver.proofs.receiver_head.ReceiverHead.is_same_queue.Given as goal

-- the first bytes are the same
abbrev pub invariant-loop-at : goal.invariant-loop-at
invariant-loop-at l =
    record {
      within : l.at ≤ l.fn.self.place.length;
      same : take l.at (queue (ring_at l.fn.storage l.fn.self.place))
          ≡ take l.at (queue (ring_at l.fn.other_storage l.fn.other.place));
    }

abbrev pub decreases-loop-at : goal.decreases-loop-at
decreases-loop-at l = l.fn.self.place.length - l.at
