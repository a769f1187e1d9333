use Rattle.net_receiver.proofs.Theorems.{fresh_is_sound, sound_stays}
use Rattle.net_receiver.proofs.laws.soundness.Goals as goal

pub returns : goal.returns
returns c = record { fresh = fresh_is_sound; stays = sound_stays }
