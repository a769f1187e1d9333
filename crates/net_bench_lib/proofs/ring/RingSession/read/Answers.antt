use Rattle.std.proofs.Common.{◌≡◌, min, length, take, drop, sym, arith}
use Rattle.std.proofs.lemmas.Result.{on_ok_weaker}
use Rattle.std.proofs.lemmas.Grind.{common_steps}
use Rattle.net_ring.specs.Ring.{capacity, queue}
use Rattle.net_bench_lib.proofs.ring.RingSession.read.Goals as goal

pub returns : goal.returns
returns g c =
    let count : c.dequeue_slice.result ≡ min c.args.number (length c.args.self.now.bytes) =
    grind (arith, common_steps) in
    let given : c.deref.result.now ≡ take (min c.args.number (length c.args.self.now.bytes)) c.args.self.now.bytes =
    grind (arith, common_steps, count) in
    let rest : queue c.dequeue_slice.new.self
    ≡ drop (min c.args.number (length c.args.self.now.bytes)) c.args.self.now.bytes =
    grind (arith, common_steps, count) in
    let same : c.args.self.now.capacity ≡ capacity c.dequeue_slice.new.self = grind (arith, common_steps) in
    on_ok_weaker c.show_bytes.result
    (λ e. λ i. (record { capacity = same i; bytes = sym rest i }, sym (rw given at e) i)) c.show_bytes.ensures
