use Rattle.std.proofs.Common.{◌≡◌, rules}
use Rattle.net_packets.specs.{without_first_and_gap, IsFirstSized}
use Rattle.net_packets.proofs.PacketOrder.{none_of, taken_as, take_call}
use Rattle.net_packets.proofs.packet_buffer.PacketsOver.take.Goals as goal

pub returns-in_default-clause-empty : goal.returns-in_default-clause-empty
returns-in_default-clause-empty g c = none_of c.args.self.now (search rules)

pub returns-clause-empty : goal.returns-clause-empty
returns-clause-empty g c = none_of c.args.self.now (search rules)

pub returns-clause-taken : goal.returns-clause-taken
returns-clause-taken g c =
    let q = c.args.self.now in
    let is : c.take_first.new.self ≡ without_first_and_gap q = search rules in
    let first : IsFirstSized q.packets c.in-Some.header c.in-Some.size = search rules in
    taken_as q c.skip.ensures.well_placed c.in-Some.header c.in-Some.size first c.take_first.new.self (search is)

pub returns-clause-call : goal.returns-clause-call
returns-clause-call g c = search (rules, take_call)
