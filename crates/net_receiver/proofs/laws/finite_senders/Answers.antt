use Rattle.net_receiver.proofs.Senders.{fresh_sent_is_sound, sound_sent_stays, closed_stays, lent_is_of_stream}
use Rattle.net_receiver.proofs.laws.finite_senders.Goals as goal

pub returns : goal.returns
returns c = record {
  fresh = fresh_sent_is_sound;
  sound = sound_sent_stays;
  closed = closed_stays;
  lent =
      lent_is_of_stream;
}
