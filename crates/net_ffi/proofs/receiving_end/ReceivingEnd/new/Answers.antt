use Rattle.net_ffi.proofs.receiving_end.ReceivingEnd.new.Goals as goal

pub returns-clause-sound : goal.returns-clause-sound
returns-clause-sound c capacity = c.new.ensures.sound capacity _
