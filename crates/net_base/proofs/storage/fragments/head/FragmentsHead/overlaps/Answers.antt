use Rattle.std.proofs.Common.{◌≡◌, ◌≤◌, ℕ, arith}
use Rattle.std.proofs.lemmas.Bool.{false≢true, cases_lt}
use Rattle.std.proofs.lemmas.Bool.Decides.{nat_tests}
use Rattle.net_assembler.specs.Positions.{Positions, first_missing}
use Rattle.net_assembler.proofs.Sets.{either, first_missing-has, first_missing-le}
use Rattle.net_base.proofs.storage.fragments.head.FragmentsHead.overlaps.Goals as goal

pub returns-then-offset-missing : goal.returns-then-offset-missing
returns-then-offset-missing c = grind (arith, first_missing-has, nat_tests)

-- where the position after which nothing is missing so far is missing itself
at_place : (s : Positions) (offset missing : ℕ) → missing ≡ first_missing s offset → missing ≤ offset → missing ≡ offset
at_place s offset missing is l = omega (arith, is, l, first_missing-le s offset)

pub returns-in-Some : goal.returns-in-Some
returns-in-Some c = grind (arith, at_place, nat_tests, either, cases_lt, false≢true)

pub overflow_sub-result : goal.overflow_sub-result
overflow_sub-result c = grind (arith, first_missing-le)

pub returns-in-None : goal.returns-in-None
returns-in-None c = grind (arith, at_place, false≢true)
