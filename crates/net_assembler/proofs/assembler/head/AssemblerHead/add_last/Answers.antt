use Rattle.std.proofs.Common.{rules, ◌≡◌, ◌==◌, ◌∙◌, ◌+◌, ◌-◌, ◌<◌, ◌≤◌, ℕ, true, false, ap, length, max, refl, set}
use Rattle.std.proofs.Common.{subst, sym, take, arith}
use Rattle.std.proofs.lemmas.Bool.{cases_lt}
use Rattle.std.proofs.lemmas.Bool.Decides.{nat_tests}
use Rattle.std.proofs.lemmas.List.{length-set}
use Rattle.net_assembler.specs.Positions.{runs_shifted_up}
use Rattle.net_assembler.specs.RunLists.{end_at, start_at, used_runs}
use Rattle.net_assembler.proofs.Runs.{runs_with_range}
use Rattle.net_assembler.proofs.Calls.{no_turn}
use Rattle.net_assembler.proofs.SoundHeads.{joined_in_place, none_added, plain, refused_in_place}
use Rattle.net_assembler.proofs.Sets.{either}
use Rattle.net_assembler.proofs.Joins.{extended_run, not_pushed, pushed_run}
use Rattle.net_assembler.proofs.ShiftedRuns.{some-runs_with_range}
use Rattle.net_assembler.proofs.assembler.head.AssemblerHead.add_last.Goals as goal

pub returns-then-size-eq0 : goal.returns-then-size-eq0
returns-then-size-eq0 c = search (rules, none_added, no_turn)

pub returns-then-is_empty : goal.returns-then-is_empty
returns-then-is_empty c =
    let h = c.args.self.now in
    let xs = c.args.runs.now in
    let o = c.args.offset in
    let k = c.args.size in
    let no_run : h.used ≡ 0 = c.in_default.ensures in
    let empty : (length xs == 0) ≡ true = sym c.is_empty.ensures ∙ c.if-is_empty.true in
    let none : length xs ≡ 0 = grind (arith, nat_tests) in
    refused_in_place h xs c.requires.sound o k o o 0 0 k (omega arith) (omega arith) (omega arith) refl
    (λ b. absurd (omega arith))
    (λ b. absurd (omega arith)) (λ _. refl) _ _ (omega arith)
    (omega (arith, some-runs_with_range (runs_shifted_up 0 (used_runs h xs)) 0 k)) (no_turn _ _ _) _

pub returns-in_default : goal.returns-in_default
returns-in_default c =
    let h = c.args.self.now in
    let xs = c.args.runs.now in
    let s = c.requires.sound in
    let o = c.args.offset in
    let k = c.args.size in
    let no_run : h.used ≡ 0 = c.in_default.ensures in
    let some : (length xs == 0) ≡ false = sym c.is_empty.ensures ∙ c.if-is_empty.false in
    let room : 0 < length xs = either (cases_lt 0 (length xs)) (λ l. l)
    (λ b. let none : length xs ≡ 0 = omega arith in absurd (grind (arith, nat_tests))) in
    let joined = subst (λ n. take (n + 1) (set xs n (0, k)) ≡ runs_with_range (used_runs h xs) 0 k) no_run
    (pushed_run xs h.used s.runs s.room 0 k (omega arith) (omega arith) (λ b. absurd (omega arith)))
    ∙ plain h xs s o k o o 0 0 k (omega arith) (omega arith) (omega arith) refl (λ b. absurd (omega arith))
    (λ b. absurd (omega arith)) (λ _. refl) refl in
    joined_in_place h xs s o k o o 0 0 k (omega arith) (omega arith) (omega arith) refl (λ b. absurd (omega arith))
    (λ b. absurd (omega arith)) (λ _. refl) 1 (set xs 0 (0, k)) _ _ (length-set xs 0 _)
    (omega (arith, room, length-set xs 0 (0, k)))
    (omega arith) (omega arith) c.requires.range joined (no_turn _ _ _)

pub returns-then-start-last : goal.returns-then-start-last
returns-then-start-last c =
    let h = c.args.self.now in
    let xs = c.args.runs.now in
    let s = c.requires.sound in
    let o = c.args.offset in
    let k = c.args.size in
    let f = h.first_start in
    let some : 0 < h.used = c.in-Some.ensures.0 in
    let run = c.last.view_is ∙ c.in-Some.ensures.1 in
    let low : c.last.inside.start ≡ start_at xs (h.used - 1) = ap (λ (r : ℕ × ℕ). r.0) run in
    let end : c.last.inside.end ≡ end_at xs (h.used - 1) = ap (λ (r : ℕ × ℕ). r.1) run in
    let from : f + start_at xs (h.used - 1) ≤ o = c.requires.last (omega arith) some in
    let high : c.max.result ≡ max (end_at xs (h.used - 1)) (o - f + k) = c.max.ensures
    ∙ ap (λ n. max n (o - f + k)) end in
    let ys = set xs (h.used - 1) (c.last.inside.start, c.max.result) in
    let joined = (λ i. take h.used (set xs (h.used - 1) (low i, c.max.result)))
    ∙ extended_run xs h.used s.runs s.room (o - f) (o - f + k) c.max.result some (omega arith) (omega arith)
    (omega (arith, end)) high
    ∙ plain h xs s o k f f 0 (o - f) (o - f + k) (omega arith) (omega arith) (omega arith) (omega arith)
    (λ b. absurd (omega arith)) (λ _. refl) (λ z. absurd (omega arith)) refl in
    joined_in_place h xs s o k f f 0 (o - f) (o - f + k) (omega arith) (omega arith) (omega arith) (omega arith)
    (λ b. absurd (omega arith)) (λ _. refl) (λ z. absurd (omega arith)) h.used ys _ _ (length-set xs (h.used - 1) _)
    (omega (arith, s.room, length-set xs (h.used - 1) (c.last.inside.start, c.max.result))) some (omega arith)
    c.requires.range joined
    (no_turn _ _ _)

pub returns-then-used-runs : goal.returns-then-used-runs
returns-then-used-runs c =
    let h = c.args.self.now in
    let xs = c.args.runs.now in
    let s = c.requires.sound in
    let o = c.args.offset in
    let k = c.args.size in
    let f = h.first_start in
    let some : 0 < h.used = c.in-Some.ensures.0 in
    let end : c.last.inside.end ≡ end_at xs (h.used - 1) =
    ap (λ (r : ℕ × ℕ). r.1) (c.last.view_is ∙ c.in-Some.ensures.1) in
    let from : f + start_at xs (h.used - 1) ≤ o = c.requires.last (omega arith) some in
    let more = not_pushed xs h.used s.runs s.room (o - f) (o - f + k) (omega arith) (λ _. omega (arith, end)) in
    let same = ap length (plain h xs s o k f f 0 (o - f) (o - f
    + k) (omega arith) (omega arith) (omega arith) (omega arith)
    (λ b. absurd (omega arith)) (λ _. refl) (λ z. absurd (omega arith)) refl) in
    refused_in_place h xs s o k f f 0 (o - f) (o - f + k) (omega arith) (omega arith) (omega arith) (omega arith)
    (λ b. absurd (omega arith)) (λ _. refl) (λ z. absurd (omega arith)) _ _ (omega arith) (omega arith)
    (no_turn _ _ _) _

pub returns : goal.returns
returns c =
    let h = c.args.self.now in
    let xs = c.args.runs.now in
    let s = c.requires.sound in
    let o = c.args.offset in
    let k = c.args.size in
    let f = h.first_start in
    let some : 0 < h.used = c.in-Some.ensures.0 in
    let end : c.last.inside.end ≡ end_at xs (h.used - 1) =
    ap (λ (r : ℕ × ℕ). r.1) (c.last.view_is ∙ c.in-Some.ensures.1) in
    let from : f + start_at xs (h.used - 1) ≤ o = c.requires.last (omega arith) some in
    let ys = set xs h.used (o - f, o - f + k) in
    let room : h.used < length xs = omega (arith, c.if-used-runs.false) in
    let joined = pushed_run xs h.used s.runs s.room (o - f) (o - f + k) room (omega arith) (λ _. omega (arith, end))
    ∙ plain h xs s o k f f 0 (o - f) (o - f + k) (omega arith) (omega arith) (omega arith) (omega arith)
    (λ b. absurd (omega arith)) (λ _. refl) (λ z. absurd (omega arith)) refl in
    joined_in_place h xs s o k f f 0 (o - f) (o - f + k) (omega arith) (omega arith) (omega arith) (omega arith)
    (λ b. absurd (omega arith)) (λ _. refl) (λ z. absurd (omega arith)) (h.used + 1) ys _ _ (length-set xs h.used _)
    (omega (arith, room, length-set xs h.used (o - f, o - f + k))) (omega arith) (omega arith) c.requires.range
    joined (no_turn _ _ _)
