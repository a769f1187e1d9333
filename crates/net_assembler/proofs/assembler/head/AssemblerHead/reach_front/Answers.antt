use Rattle.std.proofs.Common.{◌≡◌, ℕ, length, subst, sym, arith}
use Rattle.std.specs.Prelude.{Result, Ok, Err, IsErr, MatchResult}
use Rattle.net_assembler.specs.declared.assembler.error.TooManyHolesError.{TooManyHolesError}
use Rattle.net_assembler.specs.Heads.{FrontEnds}
use Rattle.net_assembler.specs.RunLists.{set_of}
use Rattle.net_assembler.proofs.SoundHeads.{added_more, first_reached, front_ends, reaches_some, runs-set_of}
use Rattle.net_assembler.proofs.Sets.{too_many}
use Rattle.net_assembler.proofs.assembler.head.AssemblerHead.reach_front.Goals as goal

pub returns-then-end-gt0-clause-front : goal.returns-then-end-gt0-clause-front
returns-then-end-gt0-clause-front c =
    let h = c.args.self.now in
    let xs = c.args.runs.now in
    let zeroth : c.args.offset ≡ 0 = c.if-offset-eq0.true in
    let end = c.end_with_first-end in
    subst (λ o. FrontEnds h xs o c.args.size h xs end.result) (sym zeroth)
    (first_reached h xs c.requires.sound c.args.size end.result (c.requires.some zeroth) (c.requires.reached zeroth)
    (omega (arith, c.requires.range))
    (end.ensures.end c.if-end-gt0.true) (end.ensures.second c.if-end-gt0.true))

on_error : (A : ℕ → Type 0) (P : Type 0) (r : Result ℕ TooManyHolesError) → IsErr r → P → MatchResult r A (λ _. P)
on_error A P (Ok n) f p = absurd (cc)
on_error A P (Err e) f p = p

pub returns-in_err-add-clause-front : goal.returns-in_err-add-clause-front
returns-in_err-add-clause-front c = grind (arith, too_many, reaches_some, on_error)

pub returns-clause-front : goal.returns-clause-front
returns-clause-front c =
    let h = c.args.self.now in
    let xs = c.args.runs.now in
    let g = c.add.new.self in
    let ys = c.add.new.runs in
    let t = c.add.ensures.sound in
    let more = added_more (length xs) (set_of h xs) c.args.offset c.args.size _ _ c.add.ensures.added in
    front_ends h xs c.args.offset c.args.size g ys c.peek_front.result t c.in_ok-add.ensures.added.ok
    (omega (arith, more, runs-set_of h xs c.requires.sound, runs-set_of g ys t)) (λ _. omega (arith, c.add.auto.runs))
    c.peek_front.ensures
