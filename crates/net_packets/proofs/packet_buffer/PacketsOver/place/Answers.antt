use Rattle.std.proofs.Common.{refl, sym, ap, ◌∙◌, arith, rules}
use Rattle.std.proofs.lemmas.Bool.{false≢true}
use Rattle.net_packets.specs.{with_packet, with_packet_if, first_size, only_last}
use Rattle.net_packets.specs.declared.head.PacketsHead.{PacketsHead}
use Rattle.net_packets.proofs.HeadParts.{IsQueue, IsPlaceIn, place_in, queue_at, well, placement_is, gap_is, has_place}
use Rattle.net_packets.proofs.HeadParts.{placed_is, placed, size_is}
use Rattle.net_packets.proofs.PacketOrder.{accepted_as, stands_as, place_call}
use Rattle.net_packets.proofs.packet_buffer.PacketsOver.place.Given as given
use Rattle.net_packets.proofs.packet_buffer.PacketsOver.place.Goals as goal

pub returns-in_default-clause-placed : goal.returns-in_default-clause-placed
returns-in_default-clause-placed g c =
    let is = placement_is (queue_at _ _ _ c.self.invariant c.self.view_is) _ _ c.count-slot_count.ensures
    c.count-capacity.ensures c.args.size in
    sym (ap (λ o. with_packet_if c.args.self.now o c.args.size c.args.header) (sym is ∙ c.in_default.ensures.full.0
    refl))

module _ (g : given.Over) (c : goal.After-self-1 g) where
  at : IsPlaceIn c.self.inside.head (g.M.Storage.elements c.self.inside.slots)
      (g.B.Storage.elements c.self.inside.bytes) c.args.self.now
      c.count-slot_count.result c.count-capacity.result c.args.size c.in-Some.place
  at =
      let met = c.in-Some.ensures in
      place_in (queue_at _ _ _ c.self.invariant c.self.view_is) c.count-slot_count.ensures c.count-capacity.ensures
      met.gap
      met.slots met.from

  left : IsQueue c.place.new.self (g.M.Storage.elements c.write_slots.new.slots)
      (g.B.Storage.elements c.self.inside.bytes)
      (with_packet c.args.self.now c.in-Some.place.gap c.args.size c.args.header)
  left =
      let met = c.in-Some.ensures.placed in
      placed at c.args.size (omega arith) c.args.header c.place.new.self (ap (λ (o : PacketsHead). o.slots) met)
      (ap (λ (o : PacketsHead). o.bytes) met) _ c.write_slots.ensures

pub invariant_of-self : goal.invariant_of-self
invariant_of-self g c = (left g c).sound

pub returns : goal.returns
returns g c =
    let q = c.args.self.now in
    let s = c.args.size in
    let hd = c.args.header in
    let ok = well (at g c).queue in
    let gap = gap_is (at g c) in
    let is = (left g c).seen ∙ placed_is (at g c) hd in
    record {
      accepted = λ ws long. accepted_as q ok s hd c.in-Some.place.gap gap _ is ws long;
      stands = stands_as q ok s hd c.in-Some.place.gap gap _ is;
      unchanged = tt;
      full = (λ e. absurd (false≢true e), λ none. absurd (has_place (at g c) none));
      placed = is;
      size = ap (λ o. first_size (only_last o.packets)) (left g c).seen ∙ size_is (at g c) hd;
      capacity = search rules;
      call = place_call q ok s hd (has_place (at g c)) _ is;
    }
