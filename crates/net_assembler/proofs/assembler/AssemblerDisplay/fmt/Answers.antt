use Rattle.std.proofs.Common.{rules, ◌≡◌, ℕ, ◌+◌, ◌-◌, ◌<◌, ◌≤◌, List, [], ◌∷◌, ◌++◌, sym, ap, subst, ◌∙◌, arith}
use Rattle.std.specs.Prelude.{codes}
use Rattle.std.specs.Fmt.{decimal}
use Rattle.std.proofs.Output.{has_written_append, has_written_of_eq}
use Rattle.std.proofs.lemmas.List.{append_assoc, append-nil}
use Rattle.net_assembler.specs.Assembler.{display_text, hole_text, text_from}
use Rattle.net_assembler.specs.Positions.{Positions, maximal_runs}
use Rattle.net_assembler.specs.RunLists.{IsRising}
use Rattle.net_assembler.proofs.Runs.{rising-maximal_runs, rising_from}
use Rattle.net_assembler.proofs.assembler.AssemblerDisplay.fmt.Goals as goal

-- the text of a run, where the one before ended at from
abbrev run_text : ℕ → ℕ → ℕ → List ℕ
run_text from start end = hole_text (start - from) ++ decimal (end - start) ++ codes " "

text_next : (from start end : ℕ) (rs rest : List (ℕ × ℕ)) (all done : List ℕ) → rs ≡ (start, end) ∷ rest →
    all ≡ done ++ text_from from rs → all ≡ (done ++ run_text from start end) ++ text_from end rest
text_next from start end rs rest all done e h =
    h ∙ ap (λ xs. done ++ text_from from xs) e
    ∙ sym (append_assoc done (run_text from start end) (text_from end rest))

rises_next : (from start end : ℕ) (rs rest : List (ℕ × ℕ)) → rs ≡ (start, end) ∷ rest → IsRising from rs →
    (from ≤ start) × (start < end) × IsRising end rest
rises_next from start end rs rest e h =
    let all = subst (IsRising from) e h in
    (all.0, all.1, rising_from end (end + 1) rest (omega arith) all.2)

text_is : (s : Positions) (from : ℕ) (rs : List (ℕ × ℕ)) (done : List ℕ) → rs ≡ [] →
    text_from 0 (maximal_runs s) ≡ done ++ text_from from rs → (codes "[ " ++ done) ++ codes "]" ≡ display_text s
unfolding display_text
text_is s from rs done e h =
    let all = h ∙ ap (λ xs. done ++ text_from from xs) e ∙ append-nil done in
    ap (λ t. (codes "[ " ++ t) ++ codes "]") (sym all)

pub loop-start-init : goal.loop-start-init
loop-start-init g c = grind (arith, rising-maximal_runs)

pub loop-start-preserved : goal.loop-start-preserved
loop-start-preserved g c =
    let from = c.loop-start.from in
    let start = c.in-Some.start in
    let end = c.in-Some.end in
    let left = c.loop-start.start-iterator in
    let done = c.loop-start.invariant.written.0 in
    let next = run_text from start end in
    record {
      rises = (rises_next from start end left c.next.new.self c.in-Some.ensures.steps c.loop-start.invariant.rises).2;
      written = (
        done ++ next,
        text_next from start end left c.next.new.self
            (text_from 0 (maximal_runs c.args.self.now)) done c.in-Some.ensures.steps
            c.loop-start.invariant.written.1,
        λ p.
            has_written_of_eq _ _ _ _ _ (append_assoc (codes "[ ") done next)
            (has_written_append _ _ _ _ _ _ (c.loop-start.invariant.written.2 p) (search rules)),
      );
    }

pub returns-clause-writes : goal.returns-clause-writes
returns-clause-writes g c p ok =
    let inv = c.loop-start.invariant in
    has_written_of_eq _ _ _ _ _
    (text_is _ c.loop-start.from c.loop-start.start-iterator _ c.in-None.ensures.steps.0 inv.written.1)
    (has_written_append _ _ _ _ _ _ (inv.written.2 p) (search rules))
