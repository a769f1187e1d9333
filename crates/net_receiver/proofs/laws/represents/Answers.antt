use Rattle.net_receiver.proofs.Theorems.{sound_represents}
use Rattle.net_receiver.proofs.Growth.{grown_refines}
use Rattle.net_receiver.proofs.Heads.{whole}
use Rattle.net_receiver.proofs.Words.{receiver_of, length}
use Rattle.net_receiver.proofs.laws.represents.Goals as goal

pub returns : goal.returns
returns c = record {
  state = sound_represents;
  parts =
      λ h xs rs sound. sound_represents (length rs) (receiver_of h xs rs) (whole xs sound).sound;
  grown = λ v s c larger r. grown_refines v c larger s r;
}
