use Rattle.std.proofs.Common.{arith, refl}
use Rattle.std.proofs.Math.Seq.{take-add}
use Rattle.std.proofs.lemmas.List.{take_rest}
use Rattle.net_bench_lib.proofs.KnownBytes.{Appends-two}
use Rattle.net_bench_lib.proofs.writer.write_text.Goals as goal

pub loop-written-preserved : goal.loop-written-preserved
loop-written-preserved g c = record {
  within = omega (arith, c.in-Ok.ensures.bound);
  held = Appends-two _ _ _ _ _ _ c.loop-written.invariant.held c.in-Ok.ensures.bytes (simp (take_rest, take-add) refl);
}
