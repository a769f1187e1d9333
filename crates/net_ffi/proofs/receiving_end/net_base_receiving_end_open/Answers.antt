use Rattle.std.proofs.Common.{◌-◌, length, max, ap, ◌∙◌, arith}
use Rattle.net_tcp.specs.Windows.{announced, field_for}
use Rattle.net_receiver.specs.Finite.{acknowledged, fresh_finite}
use Rattle.net_receiver.specs.FiniteHead.{finite_of}
use Rattle.net_ends.specs.Receiving.{new_receiving, opening_field, free_end}
use Rattle.net_ends.specs.ReceivingRules.{receiving_of as end_of}
use Rattle.net_ends.specs.declared.receiving_end.ReceivingHead.{ReceivingHead}
use Rattle.net_ends.specs.declared.receiving_end.Room.{Room}
use Rattle.net_ffi.specs.ReceivingEnds.{receiving_of}
use Rattle.net_ffi.proofs.ReceivingEnds.{room_is, begins}
use Rattle.net_ffi.proofs.receiving_end.net_base_receiving_end_open.Goals as goal

pub room-room-requires : goal.room-room-requires
room-room-requires c = c.new.ensures.sound c.args.capacity

pub returns-clause-window : goal.returns-clause-window
returns-clause-window c = λ _ storage room.
    let old = c.args.end.now in
    let made = c.new.ensures.state storage in
    let known = c.room-room.ensures.value storage room in
    let next = ap (λ (r : Room). r.next) known ∙ ap (λ e. acknowledged e.receiver) made
    ∙ begins c.args.first (length storage)
    (omega (arith, c.ranges.first.fits, c.if-first-eq18446744073709551615.false)) in
    let last = ap (λ (r : Room). r.end) known ∙ ap (λ e. free_end e.receiver) made
    ∙ ap (λ n. free_end (fresh_finite c.args.first n)) (room_is old.receiver storage old.runs) in
    c.open.ensures.window ∙ (λ i. field_for 0 (last i - next i))

pub returns-clause-step : goal.returns-clause-step
returns-clause-step c = λ yes storage room.
    let old = c.args.end.now in
    let made = c.new.ensures.state storage in
    let known = c.room-room.ensures.value storage room in
    let next = ap (λ (r : Room). r.next) known ∙ ap (λ e. acknowledged e.receiver) made
    ∙ begins c.args.first (length storage)
    (omega (arith, c.ranges.first.fits, c.if-first-eq18446744073709551615.false)) in
    let s = finite_of c.new.result.receiver storage c.new.result.runs in
    ap (λ (h : ReceivingHead). end_of s h) c.open.ensures.state
    ∙ (λ i. record (new_receiving (length storage) c.args.first old.head.segment_size) {
      receiver = (made i).receiver;
      edge = max c.args.first (announced (next i) 0 (returns-clause-window c yes storage room i));
      scale = c.args.scale;
      size = (made i).size;
    })
    ∙ (λ i. record (new_receiving (room_is old.receiver storage old.runs i) c.args.first old.head.segment_size) {
      edge = max c.args.first (announced c.args.first 0 (opening_field (receiving_of old storage) c.args.first));
      scale = c.args.scale;
    })
