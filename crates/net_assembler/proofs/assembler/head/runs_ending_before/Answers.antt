use Rattle.std.proofs.Common.{◌+◌, ◌-◌, ◌*◌, ◌/◌, ◌≤◌, arith}
use Rattle.std.proofs.lemmas.Bool.{cases_lt}
use Rattle.std.proofs.lemmas.Bool.Decides.{not_from_Decides}
use Rattle.net_assembler.specs.RunLists.{end_at}
use Rattle.net_assembler.proofs.Sets.{either}
use Rattle.net_assembler.proofs.Joins.{halved, used_ends_rise}
use Rattle.net_assembler.proofs.assembler.head.runs_ending_before.Goals as goal
use Rattle.net_assembler.proofs.assembler.head.runs_ending_before.Goals.{then-ends_before, else-ends_before}

pub loop-low-preserved : goal.loop-low-preserved
loop-low-preserved c =
    let inv = c.loop-low.invariant in
    let xs = c.args.runs.now in
    let n = c.args.used in
    let m = c.loop-low.low + (c.loop-low.high - c.loop-low.low) / 2 in
    let v = c.if-ends_before.high - c.if-ends_before.low in
    let half : 2 * v ≤ c.loop-low.high - c.loop-low.low = elim c.if-ends_before.branch [
      | then-ends_before w ↦
          omega arith
      | else-ends_before w ↦ omega arith
    ] in
    record {
      order = elim c.if-ends_before.branch [ then-ends_before w ↦ omega arith | else-ends_before w ↦ omega arith ];
      within = elim c.if-ends_before.branch [ then-ends_before w ↦ omega arith | else-ends_before w ↦ omega arith ];
      before = λ j l. elim c.if-ends_before.branch [
        | then-ends_before w ↦
            (let r = used_ends_rise xs n c.requires.runs c.requires.used j m (omega arith) (omega arith) in
            omega (arith, r, c.ends_before-in-loop-low.ensures.0 w.if-ends_before.true))
        | else-ends_before w ↦ inv.before j (omega arith)
      ];
      after = λ j l b. elim c.if-ends_before.branch [
        | then-ends_before w ↦ inv.after j (omega arith) b
        | else-ends_before w ↦
            (let r = used_ends_rise xs n c.requires.runs c.requires.used m j (omega arith) b in
            either (cases_lt (end_at xs m) c.args.offset)
            (λ by. absurd (not_from_Decides c.ends_before-in-loop-low.result c.ends_before-in-loop-low.ensures
            w.if-ends_before.false by))
            (λ reached. omega (arith, r, reached)))
      ];
      width = λ b l.
          let s = inv.width b l in
          let d = halved s.0 (c.loop-low.high - c.loop-low.low) v (omega arith) s.2 half in
          (d.0, omega (arith, s.1, d.1), d.2);
      more = omega arith;
      moves = omega arith;
    }

pub returns-then-not-ends_before-clause-after : goal.returns-then-not-ends_before-clause-after
returns-then-not-ends_before-clause-after c = λ k a b.
    let r = used_ends_rise c.args.runs.now c.args.used c.requires.runs c.requires.used 0 k a b in
    either (cases_lt (end_at c.args.runs.now 0) c.args.offset)
    (λ by. absurd (not_from_Decides c.ends_before.result c.ends_before.ensures c.if-not-ends_before.true by))
    (λ reached. omega (arith, r, reached))
