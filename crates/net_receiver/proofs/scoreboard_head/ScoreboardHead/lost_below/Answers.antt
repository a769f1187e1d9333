use Rattle.net_receiver.proofs.Words.{ℕ, ◌≡◌, ◌∙◌, ◌+◌, ◌-◌, ◌*◌, ◌≤◌, ◌⊎◌, ◌<◌, ◌↔◌, max, inl, inr, length, sym, ap}
use Rattle.net_receiver.proofs.Words.{arith, refl, subst, false, suc, drop, [], maximal_runs, reported_by, beyond}
use Rattle.net_receiver.proofs.Words.{sizes, cases_lt, both_ways, IsTrue, length-drop, List}
use Rattle.std.proofs.lemmas.List.{drop_all}
use Rattle.net_receiver.specs.{runs_above, tell_loss}
use Rattle.net_receiver.proofs.Scoreboards.{few_tell, many_tell}
use Rattle.net_receiver.proofs.BoardSearches.{all_rise, among, bound_at, no_bound, numbered, one_more, sizes_all}
use Rattle.net_receiver.proofs.BoardSearches.{start_fits, start_is, stored}
use Rattle.net_receiver.proofs.scoreboard_head.ScoreboardHead.lost_below.Goals.{then-above-enough-via-then-above-enough}
use Rattle.net_receiver.proofs.scoreboard_head.ScoreboardHead.lost_below.Goals.{then-above-enough-via-else-above-enough+then-bytes-most}
use Rattle.net_receiver.proofs.scoreboard_head.ScoreboardHead.lost_below.Goals.{In-Some}
use Rattle.net_receiver.proofs.scoreboard_head.ScoreboardHead.lost_below.Goals as goal

pub loop-above-init : goal.loop-above-init
loop-above-init c =
    let d = c.args.duplicates in
    let n = c.args.segment_size in
    let all = maximal_runs (beyond (reported_by c.args.self.now c.args.runs.now)) in
    let used = c.args.self.now.reported.used in
    let none = drop_all (used - 0) all (omega (arith, numbered c.args.self.now c.args.runs.now c.requires)) in
    record {
      bytes = ap sizes (sym none);
      few = ap (tell_loss d n) none
          ∙ few_tell d n 0 0 ((d - 1) * n) [] refl refl (omega arith) (omega arith) (omega arith);
      looks = c.new-turns.ensures.looks;
      moves = c.new-turns.ensures.moves;
    }

pub returns-in_default : goal.returns-in_default
returns-in_default c =
    let k = c.args.self.now.reported.used - 1 - c.loop-above.above in
    let some = stored c.args.self.now c.args.runs.now c.requires k
    (omega (arith, c.loop-above-test.true, c.min-above-end.ensures)) in
    let none = c.in_default.ensures.run in
    absurd (cc)

-- the run that is looked at
module _ (c : In-Some) where
  abbrev d : ℕ
  d = c.args.duplicates

  abbrev n : ℕ
  n = c.args.segment_size

  abbrev all : List (ℕ × ℕ)
  all = maximal_runs (beyond (reported_by c.args.self.now c.args.runs.now))

  abbrev k : ℕ
  k = c.args.self.now.reported.used - 1 - c.loop-above.above

  abbrev bytes : ℕ
  bytes = c.loop-above.bytes + (c.in-Some.end - c.in-Some.start)

  next : suc k ≡ c.args.self.now.reported.used - c.loop-above.above
  next = omega (arith, c.loop-above-test.true, c.min-above-end.ensures)

  here : k ≡ c.args.self.now.reported.used - (c.loop-above.above + 1)
  here = omega arith

  within : k < length all
  within = among c.args.self.now c.args.runs.now c.requires k c.in-Some.start c.in-Some.end c.in-Some.ensures.run

  counted : bytes ≡ sizes (drop k all)
  counted =
      let more = ap sizes (one_more c.args.self.now c.args.runs.now c.requires k c.in-Some.start c.in-Some.end
      c.in-Some.ensures.run) in
      let rest = ap (λ j. sizes (drop j all)) next in
      omega (arith, more, rest, c.loop-above.invariant.bytes)

  number : c.loop-above.above + 1 ≡ length (drop k all)
  number =
      let left = length-drop k all in
      omega (
        arith,
        left,
        numbered c.args.self.now c.args.runs.now c.requires,
        next,
        within,
        c.loop-above-test.true,
        c.min-above-end.ensures,
      )

  few_after : tell_loss d n (drop (suc k) all) ≡ false
  few_after = ap (λ j. tell_loss d n (drop j all)) next ∙ c.loop-above.invariant.few

  product : c.saturating_sub.result * n ≡ (d - 1) * n
  product = ap (λ j. j * n) c.saturating_sub.ensures

pub overflow_add-bytes : goal.overflow_add-bytes
overflow_add-bytes c =
    let e = (goal.at.overflow_add-bytes c).In-Some in
    omega (arith, counted e, sizes_all c.args.self.now c.args.runs.now c.requires (k e))

pub overflow_add-result : goal.overflow_add-result
overflow_add-result c =
    let fits = start_fits c.args.self.now c.args.runs.now c.requires
    (c.args.self.now.reported.used - 1 - c.loop-above.above) c.in-Some.start c.in-Some.end c.in-Some.ensures.run
    c.in-Some.ensures.some in
    omega (arith, fits)

pub returns-then-above-enough : goal.returns-then-above-enough
returns-then-above-enough c = λ p.
    let e = (goal.at.returns-then-above-enough c).In-Some in
    let which : (max 1 (d e) ≤ c.loop-above.above + 1) ⊎ (c.saturating_mul-most.result < bytes e) =
    elim c.then-above-enough.branch [
      | then-above-enough-via-then-above-enough w ↦ inl (omega (arith, w.if-above-enough.true, c.max-enough.ensures))
      | then-above-enough-via-else-above-enough+then-bytes-most w ↦ inr w.if-bytes-most.true
    ] in
    let few_bytes = sizes_all c.args.self.now c.args.runs.now c.requires (k e) in
    let tells = many_tell (d e) (n e) (c.loop-above.above + 1) (bytes e) c.saturating_mul-most.result
    (drop (k e) (all e)) (number e) (counted e)
    (λ more. omega (arith, more, counted e, few_bytes, c.saturating_mul-most.ensures, product e)) which in
    subst (λ (q : ℕ). (p < q) ↔ IsTrue (tell_loss (d e) (n e) (runs_above (all e) p)))
    (start_is c.args.self.now c.args.runs.now c.requires (k e) c.in-Some.start c.in-Some.end c.in-Some.ensures.run)
    (bound_at (d e) (n e) 0 (all e) (k e) (all_rise c.args.self.now c.args.runs.now c.requires) (within e) tells
    (few_after e) p)

pub loop-above-preserved : goal.loop-above-preserved
loop-above-preserved c =
    let e = (goal.at.loop-above-preserved c).In-Some in
    let few = few_tell (d e) (n e) (c.loop-above.above + 1) (bytes e) c.saturating_mul-most.result
    (drop (k e) (all e)) (number e) (counted e)
    (omega (arith, c.saturating_mul-most.ensures, product e))
    (omega (arith, c.if-above-enough.false, c.max-enough.ensures, c.loop-above-test.true, c.min-above-end.ensures))
    (omega (arith, c.if-bytes-most.false)) in
    record {
      bytes = counted e ∙ ap (λ j. sizes (drop j (all e))) (here e);
      few = ap (λ j. tell_loss (d e) (n e) (drop j (all e))) (sym (here e)) ∙ few;
      looks = omega (arith, c.look.ensures.looks, c.loop-above.invariant.looks);
      moves = omega (arith, c.look.ensures.moves, c.loop-above.invariant.moves);
    }

pub returns : goal.returns
returns c =
    let d = c.args.duplicates in
    let n = c.args.segment_size in
    let all = maximal_runs (beyond (reported_by c.args.self.now c.args.runs.now)) in
    let used = c.args.self.now.reported.used in
    let above = c.loop-above.above in
    let as_many = numbered c.args.self.now c.args.runs.now c.requires in
    elim (cases_lt above (max 1 d)) [
      | inl few ↦ (
          let zeroth : used - above ≡ 0 =
          omega (arith, few, c.loop-above-test.false, c.min-above-end.ensures, c.max-enough.ensures) in
          no_bound d n all (sym (ap (λ j. tell_loss d n (drop j all)) zeroth) ∙ c.loop-above.invariant.few))
      | inr enough ↦ (
          let left = length-drop (used - above) all in
          let number : above ≡ length (drop (used - above) all) =
          omega (arith, left, as_many, enough, c.loop-above.auto.above-end, c.min-above-end.ensures) in
          let tells = many_tell d n above c.loop-above.bytes ((d - 1) * n) (drop (used - above) all) number
          c.loop-above.invariant.bytes (λ more. omega arith)
          (inl enough) in
          absurd (both_ways _ c.loop-above.invariant.few tells))
    ]
