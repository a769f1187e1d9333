use Rattle.std.proofs.Common.{◌≡◌, ◌+◌, ◌-◌, ◌≤◌, ℕ, ap, length, subst, arith}
use Rattle.net_assembler.specs.Heads.{AddsInPlace}
use Rattle.net_assembler.specs.Turns.{binary_digits}
use Rattle.net_assembler.proofs.Calls.{below_binary_digits}
use Rattle.net_assembler.proofs.SoundHeads.{searched}
use Rattle.net_assembler.proofs.assembler.head.AssemblerHead.join.Goals as goal
use Rattle.net_assembler.proofs.assembler.head.AssemblerHead.join.Goals.{then-by-eq0, else-by-eq0}

pub returns : goal.returns
returns c =
    let h = c.args.self.now in
    let xs = c.args.runs.now in
    let n = length xs in
    let d = below_binary_digits n in
    let met = c.if-by-eq0 in
    let left = c.join_here in
    let at : h.first_start - c.saturating_sub-by.result + c.saturating_sub-start.result ≡ c.args.offset = omega arith in
    let some : c.args.turns.now.0 ≤ met.turns.0 = elim met.branch [
      | then-by-eq0 w ↦ omega (
        arith,
        ap (λ (t : ℕ × ℕ). t.0) w.turns-is,
        w.runs_ending_before-first.ensures.no_look_lost,
      )
      | else-by-eq0 w ↦ omega (arith, ap (λ (t : ℕ × ℕ). t.0) w.turns-is)
    ] in
    let few : met.turns.0 ≤ c.args.turns.now.0 + binary_digits n = elim met.branch [
      | then-by-eq0 w ↦
          omega (
            arith,
            ap (λ (t : ℕ × ℕ). t.0) w.turns-is,
            w.runs_ending_before-first.ensures.looks (binary_digits n) (omega (arith, c.requires.sound.room)),
          )
      | else-by-eq0 w ↦ omega (arith, ap (λ (t : ℕ × ℕ). t.0) w.turns-is)
    ] in
    let moves : met.turns.1 ≡ c.args.turns.now.1 = elim met.branch [
      | then-by-eq0 w ↦ omega (arith, ap (λ (t : ℕ × ℕ). t.1) w.turns-is, w.runs_ending_before-first.ensures.moves)
      | else-by-eq0 w ↦ ap (λ (t : ℕ × ℕ). t.1) w.turns-is
    ] in
    subst (λ o. AddsInPlace h xs o c.args.size left.result left.new.self left.new.runs c.args.turns.now
    left.new.turns) at
    (searched h xs _ _ _ _ _ _ _ _ left.ensures.added some few moves left.ensures.looks)
