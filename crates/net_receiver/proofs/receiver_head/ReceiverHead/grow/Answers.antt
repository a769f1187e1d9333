use Rattle.std.proofs.lemmas.List.{take_rest}
use Rattle.net_receiver.proofs.Words.{refl}
use Rattle.net_ring.proofs.Rotations.{read_at_le}
use Rattle.net_ring.specs.RingHead.{ring_at}
use Rattle.net_receiver.proofs.Growth.{copied, grown_parts}
use Rattle.net_receiver.proofs.receiver_head.ReceiverHead.grow.Goals as goal

pub returns-clause-state : goal.returns-clause-state
returns-clause-state c = λ runs sound.
    let h = c.args.self.now in
    let xs = c.args.storage.now in
    let first = c.write_unallocated.ensures in
    let second = c.write_unallocated-2.ensures in
    grown_parts h xs runs sound c.write_unallocated-2.new.storage _ c.first_index.result
    (copied xs c.args.larger.now c.write_unallocated.new.storage c.write_unallocated-2.new.storage _ _ h.place.read_at _
    c.first_index.result _ _ (read_at_le (ring_at xs h.place) sound.place) c.requires.larger first.size (take_rest xs h.place.read_at) refl
    refl
    first.count second.count first.written.1 second.written.1)
