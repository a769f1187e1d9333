use Rattle.net_receiver.proofs.FiniteReceivers.{fresh_sound_end, sound_end_stays, end_stays, segment_of_stream}
use Rattle.net_receiver.proofs.FiniteReceivers.{one_read, reads_the_stream, all_of_stream, acknowledged_grows}
use Rattle.net_receiver.proofs.FiniteReceivers.{end_is_taken, all_bytes_complete, only_ends_differ, end_in_order}
use Rattle.net_receiver.proofs.laws.finite_receivers.Goals as goal

pub returns : goal.returns
returns c = record {
  fresh = fresh_sound_end;
  sound = sound_end_stays;
  stays = end_stays;
  segment = segment_of_stream;
  read = one_read;
  reads = reads_the_stream;
  whole = all_of_stream;
  beyond = only_ends_differ;
  in_order = end_in_order;
  acknowledged = acknowledged_grows;
  taken = end_is_taken;
  complete = all_bytes_complete;
}
