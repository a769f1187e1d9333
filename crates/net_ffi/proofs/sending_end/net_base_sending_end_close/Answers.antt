use Rattle.net_ffi.proofs.sending_end.net_base_sending_end_close.Goals as goal

pub returns-clause-sound : goal.returns-clause-sound
returns-clause-sound c = λ capacity sound. (c.close.ensures.sound capacity sound.0, sound.1)
