use Rattle.std.proofs.Common.{◌+◌, ◌-◌, ◌*◌, ◌/◌, ◌≤◌, arith}
use Rattle.std.proofs.lemmas.Bool.{cases_lt}
use Rattle.std.proofs.lemmas.Bool.Decides.{not_from_Decides}
use Rattle.net_assembler.specs.RunLists.{start_at}
use Rattle.net_assembler.proofs.Sets.{either}
use Rattle.net_assembler.proofs.Joins.{halved, used_starts_rise}
use Rattle.net_assembler.proofs.assembler.head.runs_starting_by.Goals as goal
use Rattle.net_assembler.proofs.assembler.head.runs_starting_by.Goals.{then-starts_by, else-starts_by}

pub loop-low-preserved : goal.loop-low-preserved
loop-low-preserved c =
    let inv = c.loop-low.invariant in
    let xs = c.args.runs.now in
    let n = c.args.used in
    let m = c.loop-low.low + (c.loop-low.high - c.loop-low.low) / 2 in
    let v = c.if-starts_by.high - c.if-starts_by.low in
    let half : 2 * v ≤ c.loop-low.high - c.loop-low.low = elim c.if-starts_by.branch [
      | then-starts_by w ↦
          omega arith
      | else-starts_by w ↦ omega arith
    ] in
    record {
      order = elim c.if-starts_by.branch [ then-starts_by w ↦ omega arith | else-starts_by w ↦ omega arith ];
      within = elim c.if-starts_by.branch [ then-starts_by w ↦ omega arith | else-starts_by w ↦ omega arith ];
      before = λ j l. elim c.if-starts_by.branch [
        | then-starts_by w ↦
            (let r = used_starts_rise xs n c.requires.runs c.requires.used j m (omega arith) (omega arith) in
            omega (arith, r, c.starts_by.ensures.0 w.if-starts_by.true))
        | else-starts_by w ↦ inv.before j (omega arith)
      ];
      after = λ j l b. elim c.if-starts_by.branch [
        | then-starts_by w ↦ inv.after j (omega arith) b
        | else-starts_by w ↦
            (let r = used_starts_rise xs n c.requires.runs c.requires.used m j (omega arith) b in
            either (cases_lt c.args.end (start_at xs m)) (λ past. omega (arith, r, past))
            (λ by. absurd (not_from_Decides c.starts_by.result c.starts_by.ensures w.if-starts_by.false by)))
      ];
      width = λ b l.
          let s = inv.width b l in
          let d = halved s.0 (c.loop-low.high - c.loop-low.low) v (omega arith) s.2 half in
          (d.0, omega (arith, s.1, d.1), d.2);
      moves = omega arith;
    }
