use Rattle.std.proofs.Common.{◌≡◌, true, get_or, refl, arith, rules}
use Rattle.std.specs.Char.{is_ascii_digit}
use Rattle.std.proofs.lemmas.Bool.Decides.{nat_tests}
use Rattle.std.proofs.lemmas.List.Folds.{list_all_more}
use Rattle.net_bench_lib.proofs.Numerals.{digits-more, number-large}
use Rattle.net_bench_lib.proofs.numeral.number.Goals as goal

pub returns-in_err-checked_mul : goal.returns-in_err-checked_mul
returns-in_err-checked_mul c =
    let digit : is_ascii_digit (get_or c.args.word.now c.loop-byte.byte-index 0) ≡ true = search rules in
    rw (number-large _ _ _ c.loop-byte-test.true c.loop-byte.invariant.written digit (grind (arith, nat_tests)))
    (search rules)

pub returns-in_err-value : goal.returns-in_err-value
returns-in_err-value c =
    let digit : is_ascii_digit (get_or c.args.word.now c.loop-byte.byte-index 0) ≡ true = search rules in
    rw (number-large _ _ _ c.loop-byte-test.true c.loop-byte.invariant.written digit (grind (arith, nat_tests)))
    (search rules)

pub loop-byte-preserved : goal.loop-byte-preserved
loop-byte-preserved c =
    let digit : is_ascii_digit (get_or c.args.word.now c.loop-byte.byte-index 0) ≡ true = search rules in
    record {
      digits = rw (list_all_more is_ascii_digit _ _ 0 c.loop-byte-test.true, c.loop-byte.invariant.digits, digit) refl;
      written = rw (digits-more _ _ _ c.loop-byte-test.true c.loop-byte.invariant.written digit)
          (grind (arith, nat_tests));
      fits = grind (arith, nat_tests);
    }
