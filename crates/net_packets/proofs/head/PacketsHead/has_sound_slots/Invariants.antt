use Rattle.std.proofs.Common.{◌≡◌, ◌≢◌, ◌+◌, ◌≤◌, drop}
use Rattle.net_ring.specs.Ring.{index_after, queue}
use Rattle.net_packets.specs.{AreSlotsAfter, slot_ring}
use Rattle.net_packets.proofs.head.PacketsHead.has_sound_slots.Given as goal

-- what is left to test
abbrev pub invariant-loop-k : goal.invariant-loop-k
invariant-loop-k l = record {
  within : l.done.offset + l.done.gap ≤ l.self.bytes.length;
  ends : l.done.gap ≢ 0 → index_after l.capacity l.self.bytes.read_at l.done.offset + l.done.gap ≡ l.capacity;
  on : AreSlotsAfter l.capacity l.self.bytes 0 0 (queue (slot_ring l.self l.slots)) →
      AreSlotsAfter l.capacity l.self.bytes l.done.offset l.done.gap (drop l.k (queue (slot_ring l.self l.slots)));
  back : AreSlotsAfter l.capacity l.self.bytes l.done.offset l.done.gap (drop l.k (queue (slot_ring l.self l.slots))) →
      AreSlotsAfter l.capacity l.self.bytes 0 0 (queue (slot_ring l.self l.slots));
}
