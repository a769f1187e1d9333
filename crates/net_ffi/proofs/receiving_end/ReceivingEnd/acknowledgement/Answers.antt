use Rattle.std.proofs.Common.{◌++◌, None, false, length, min, max, ap, sym, ◌∙◌, subst}
use Rattle.net_receiver.specs.NewestRuns.{with_starts}
use Rattle.net_receiver.specs.FiniteHead.{finite_of}
use Rattle.net_ends.specs.Receiving.{listed, part_reported}
use Rattle.net_ends.specs.ReceivingRules.{receiving_of as end_of, waiting, promise_at}
use Rattle.net_ends.specs.declared.receiving_end.ReceivingHead.{ReceivingHead}
use Rattle.net_ends.specs.declared.receiving_end.Room.{Room}
use Rattle.net_ffi.specs.ReceivingEnds.{HasSoundEnd, fields_of}
use Rattle.net_ffi.proofs.receiving_end.ReceivingEnd.acknowledgement.Goals as goal

pub returns-clause-blocks : goal.returns-clause-blocks
returns-clause-blocks c = λ storage room.
    let it = c.args.self.now in
    let known = c.room-room.ensures.value storage room in
    let sound = subst (λ n. HasSoundEnd n it) (sym room) c.requires in
    let told = c.acknowledge-next.ensures.state in
    let taken = c.take_duplicate-duplicate.ensures.state in
    let part = c.take_duplicate-duplicate.ensures.value
    ∙ ap (λ (h : ReceivingHead). part_reported c.room-room.result.next c.room-room.result.is_complete (waiting h)) told
    ∙ ap (λ (r : Room). part_reported r.next r.is_complete (waiting it.head)) known in
    let list = ap (λ (h : ReceivingHead). listed (end_of (finite_of it.receiver storage it.runs) h)) taken
    ∙ ap (λ (h : ReceivingHead). listed (end_of (finite_of it.receiver storage it.runs) h)) told in
    let runs = c.list_runs-runs.ensures.value storage sound in
    let front = c.in_front-blocks.ensures _ runs.0 runs.1 in
    (front.0 ∙ (λ i. fields_of (part i ++ list i)), front.1 ∙ (λ i. min (length (part i ++ list i)) 4))

pub returns-clause-step : goal.returns-clause-step
returns-clause-step c = λ storage room.
    let it = c.args.self.now in
    let s = finite_of it.receiver storage it.runs in
    let recent = c.list_runs-runs.new.self.head.recent in
    let sound = subst (λ n. HasSoundEnd n it) (sym room) c.requires in
    let known = c.room-room.ensures.value storage room in
    let told = c.acknowledge-next.ensures.state in
    let taken = c.take_duplicate-duplicate.ensures.state in
    let list = ap (λ (h : ReceivingHead). listed (end_of s h)) taken
    ∙ ap (λ (h : ReceivingHead). listed (end_of s h)) told in
    let before = ap (λ (h : ReceivingHead). h.recent) taken ∙ ap (λ (h : ReceivingHead). h.recent) told in
    let starts = c.list_runs-runs.ensures.recent storage sound ∙ (λ i. with_starts (before i) (list i)) in
    ap (λ e. end_of (finite_of e.receiver storage e.runs) e.head) c.list_runs-runs.ensures.rest
    ∙ ap (λ (h : ReceivingHead). end_of s (record h { recent = recent })) taken
    ∙ ap (λ (h : ReceivingHead). end_of s (record h { recent = recent; duplicate = (0, 0); has_duplicate = false })) told
    ∙ (λ i. record (end_of s it.head) {
      edge = max it.head.advertised.edge (promise_at it.head (known i));
      recent = starts i;
      duplicate = None;
      unanswered = 0;
    })
