use Rattle.net_receiver.proofs.Words.{◌≡◌, ◌-◌, false, drop, maximal_runs, reported_by, beyond, sizes}
use Rattle.net_receiver.specs.{tell_loss}
use Rattle.net_receiver.proofs.scoreboard_head.ScoreboardHead.lost_below.Given as goal

-- the runs that were looked at, the last ones, don't tell a loss
abbrev pub invariant-loop-above : goal.invariant-loop-above
invariant-loop-above l = record {
  bytes : l.bytes ≡ sizes (drop (l.used - l.above) (maximal_runs (beyond (reported_by l.self l.runs))));
  few : tell_loss l.duplicates l.segment_size
      (drop (l.used - l.above) (maximal_runs (beyond (reported_by l.self l.runs)))) ≡ false;
  looks : l.turns.0 ≡ l.above;
  moves : l.turns.1 ≡ 0;
}
