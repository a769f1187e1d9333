use Rattle.std.proofs.Common.{◌≡◌, ℕ, Decides, sym, ◌∙◌, ap, ◌==◌, ◌&&◌, arith}
use Rattle.std.specs.Cmp.Lexicographic.{pointwise_decides}
use Rattle.std.proofs.lemmas.Bool.{eqb-true}
use Rattle.std.proofs.lemmas.Bool.Decides.{same_from_decides, Decides-and, Decides-eqb}
use Rattle.net_assembler.specs.Positions.{runs_shifted_up}
use Rattle.net_assembler.specs.RunLists.{used_runs, set_of, set_of_runs}
use Rattle.net_assembler.proofs.Sets.{are_same_decides}
use Rattle.net_assembler.proofs.SoundHeads.{same_first_start, same_pairs}
use Rattle.net_assembler.proofs.assembler.head.AssemblerHead.is_same.Goals as goal
use Rattle.net_assembler.proofs.assembler.head.AssemblerHead.is_same.Goals.{After-eq}

pair_decides : (x y : ℕ × ℕ) → Decides ((x.0 == y.0) && (x.1 == y.1)) (x ≡ y)
pair_decides x y =
    let d = Decides-and (x.0 == y.0) (x.1 == y.1) (Decides-eqb x.0 y.0) (Decides-eqb x.1 y.1) in
    (λ t. let p = d.0 t in λ i. (p.0 i, p.1 i), λ e. d.1 (ap (λ (r : ℕ × ℕ). r.0) e, ap (λ (r : ℕ × ℕ). r.1) e))

-- the first runs start at one position, and the pairs are compared
compared : (c : After-eq) →
    Decides c.eq.result (set_of c.args.self.now c.args.runs.now ≡ set_of c.args.other.now c.args.other_runs.now)
compared c =
    let d =
    pointwise_decides pair_decides (used_runs c.args.self.now c.args.runs.now)
    (used_runs c.args.other.now c.args.other_runs.now) in
    let start : c.args.self.now.first_start ≡ c.args.other.now.first_start = omega arith in (
      λ e. let pairs = d.0 (sym c.eq.ensures ∙ e) in λ i. set_of_runs (runs_shifted_up (start i) (pairs i)),
      λ e. c.eq.ensures ∙ d.1 (same_pairs _ _ _ _ c.requires.sound c.requires.other_sound (omega arith) e),
    )

pub returns-then-self-other : goal.returns-then-self-other
returns-then-self-other c =
    record { test = same_from_decides _ _ (compared c) (are_same_decides _ _); same = compared c }

-- they start at different positions
pub returns-else-self-other : goal.returns-else-self-other
returns-else-self-other c = grind (arith, eqb-true, same_first_start, same_from_decides, are_same_decides)
