-- By the laws of receivers of a stream that ends.
use Rattle.net_ends.proofs.ReceivingLaws.{stays_sound, edge_stays, number_stays}
use Rattle.net_ends.proofs.receiving_end.laws.announcements.Goals as goal

pub returns-clause-sound : goal.returns-clause-sound
returns-clause-sound c =
    stays_sound c.finite_receivers.ensures.sound c.finite_receivers.ensures.acknowledged c.numbers.ensures.limit

pub returns-clause-edge : goal.returns-clause-edge
returns-clause-edge c =
    edge_stays c.finite_receivers.ensures.sound c.finite_receivers.ensures.acknowledged c.numbers.ensures.limit

pub returns-clause-number : goal.returns-clause-number
returns-clause-number c =
    number_stays c.finite_receivers.ensures.sound c.finite_receivers.ensures.acknowledged c.numbers.ensures.limit
