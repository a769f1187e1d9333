use Rattle.net_receiver.proofs.OneStream.{completes, has_byte_stays, accepted_brings, has_all_reaches, in_order_reaches}
use Rattle.net_receiver.proofs.laws.completion.Goals as goal

pub returns : goal.returns
returns c = record {
  all = completes;
  stays = has_byte_stays;
  brings = accepted_brings;
  reaches =
      has_all_reaches;
  in_order = in_order_reaches;
}
