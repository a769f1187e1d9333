use Rattle.std.proofs.Common.{refl}
use Rattle.net_base.proofs.FragmentFacts.{no_parts}
use Rattle.net_base.proofs.storage.fragments.head.FragmentsHead.new.Goals as goal

pub returns-clause-sound : goal.returns-clause-sound
returns-clause-sound c = λ bytes runs. no_parts _ bytes runs (c.new.ensures.sound runs) (c.new.ensures.empty runs) refl
