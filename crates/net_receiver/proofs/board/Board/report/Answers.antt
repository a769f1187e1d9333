use Rattle.net_receiver.proofs.Words.{arith, nat_tests, common_steps, ◌≡◌, ◌∙◌, ℕ, List, ap, length, lent_whole}
use Rattle.net_receiver.proofs.Words.{reported_by, subst, sym, IsSoundBoard, Result, Ok, Err}
use Rattle.std.specs.Prelude.{OnOk, OnErr}
use Rattle.net_receiver.specs.SendRanges.{Board}
use Rattle.net_receiver.specs.declared.scoreboard_head.ReportError.{ReportError}
use Rattle.net_receiver.proofs.Scoreboards.{front_board}
use Rattle.net_receiver.proofs.board.Board.report.Given as given
use Rattle.net_receiver.proofs.board.Board.report.Goals as goal

-- the runs, lent whole, and what they are then
lent : (g : given.Over) (c : goal.After-self-1 g) → c.part_mut-runs.result.now ≡ g.R.Storage.elements c.self.inside.runs
lent g c = (lent_whole c.count-count.result (g.R.Storage.elements c.self.inside.runs) _ c.report.new.runs
    c.count-count.ensures c.part_mut-runs.ensures.value c.report.auto.runs).0

left : (g : given.Over) (c : goal.After-self-1 g) →
    g.R.Storage.elements (g.R.Storage.with_part c.self.inside.runs 0 c.report.new.runs) ≡ c.report.new.runs
left g c =
    g.met.R.Storage.part_written c.self.inside.runs 0 c.report.new.runs
    ∙ (lent_whole c.count-count.result (g.R.Storage.elements c.self.inside.runs) _ c.report.new.runs
    c.count-count.ensures c.part_mut-runs.ensures.value c.report.auto.runs).1

on_ok : (r : Result (Unit {0}) ReportError) (P Q : Type 0) → (P → Q) → OnOk r P → OnOk r Q
on_ok (Ok u) P Q f p = f p
on_ok (Err e) P Q f p = tt

on_err : (r : Result (Unit {0}) ReportError) (P Q : Type 0) → (P → Q) → OnErr r P → OnErr r Q
on_err (Ok u) P Q f p = tt
on_err (Err e) P Q f p = f p

pub invariant_of-self : goal.invariant_of-self
invariant_of-self g c = (
  subst (IsSoundBoard c.report.new.self) (sym (left g c)) c.report.ensures.sound,
  c.report.ensures.canonical c.self.invariant.1,
)

pub returns-clause-runs : goal.returns-clause-runs
returns-clause-runs g c =
    ap length (left g c) ∙ c.report.auto.runs ∙ ap length (lent g c) ∙ ap (λ (b : Board). b.most_runs) c.self.view_is

pub returns-clause-too_many : goal.returns-clause-too_many
returns-clause-too_many g c =
    grind (
      arith,
      nat_tests,
      common_steps,
      c.self.invariant.0,
      c.self.view_is,
      c.report.ensures.too_many,
      lent,
      front_board,
    )

pub returns-clause-ok : goal.returns-clause-ok
returns-clause-ok g c = grind (arith, nat_tests, common_steps, c.self.view_is, c.report.ensures.ok, on_ok, left, lent)

pub returns-clause-unchanged : goal.returns-clause-unchanged
returns-clause-unchanged g c =
    let board : _ → List (ℕ × ℕ) → Board = λ h rs. record { most_runs = length rs; positions = reported_by h rs } in
    on_err _ _ _ (λ e. (λ k. board c.report.new.self (left g c k)) ∙ (λ k. board (e.0 k) (e.1 k))
    ∙ (λ k. board c.self.inside.head (lent g c k)) ∙ c.self.view_is) c.report.ensures.unchanged
