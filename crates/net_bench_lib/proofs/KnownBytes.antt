-- What writes and reads that follow one another do to known bytes.
use Rattle.std.proofs.Common.{◌≡◌, ℕ, List, ◌++◌, length, take, Option, Result, Ok, Err, OnOk, IfErr, refl, ◌∙◌, ap}
use Rattle.std.proofs.Common.{append_assoc, length-append}
use Rattle.std.specs.Io.{StartsWith}
use Rattle.std.specs.Io.KnownBytes.{Appends}
use Rattle.std.proofs.KnownBytes.{Appends-trans, starts_with_rest}
use Rattle.std.proofs.Transfers.{starts_with_of_eq, starts_with_of_append}
use Rattle.std.proofs.Math.Seq.{take-append-add}
use Rattle.net_bench_lib.specs.Writer.{AppendsPrefix}
use Rattle.net_bench_lib.specs.declared.error.BenchError.{BenchError}

-- two writes are one
pub Appends-two : (a b c : Option (List ℕ)) (xs ys zs : List ℕ) → Appends a b xs → Appends b c ys → xs ++ ys ≡ zs →
    Appends a c zs
Appends-two a b c xs ys zs h k e = rw (← e) (Appends-trans a b c xs ys h k)

-- a prefix of what is written after a text is one of both
StartsWith-after : (text rest prefix : List ℕ) → StartsWith rest prefix → StartsWith (text ++ rest) (text ++ prefix)
StartsWith-after text rest prefix h = ap (λ n. take n (text ++ rest)) (length-append text prefix) ∙
    take-append-add text rest (length prefix) ∙ ap (λ t. text ++ t) h

-- all of a text is a prefix of it
pub AppendsPrefix-all : (a b : Option (List ℕ)) (text : List ℕ) → Appends a b text → AppendsPrefix a b text
AppendsPrefix-all a b text w = record { written = text; prefix = starts_with_of_eq text text refl; appended = w }

-- a prefix of what comes after a text
pub AppendsPrefix-after : (a b c : Option (List ℕ)) (xs more : List ℕ) → Appends a b xs → AppendsPrefix b c more →
    AppendsPrefix a c (xs ++ more)
AppendsPrefix-after a b c xs more h w = record {
  written = xs ++ w.written;
  prefix = StartsWith-after xs more w.written w.prefix;
  appended = Appends-trans a b c xs w.written h w.appended;
}

-- a prefix of a text is one of a longer text
pub AppendsPrefix-more : (a b : Option (List ℕ)) (xs more : List ℕ) → AppendsPrefix a b xs →
    AppendsPrefix a b (xs ++ more)
AppendsPrefix-more a b xs more w =
    let e = starts_with_rest xs w.written w.prefix in
    record {
      written = w.written;
      prefix = starts_with_of_append (xs ++ more) w.written _ (ap (λ t. t ++ more) e ∙ append_assoc w.written _ more);
      appended = w.appended;
    }

-- what `write_text` writes, however it ends
pub AppendsPrefix-ended : (P : BenchError → Type 0) (a b : Option (List ℕ)) (text : List ℕ)
    (r : Result (Unit {0}) BenchError) →
    OnOk r (Appends a b text) → IfErr r (λ e. P e × AppendsPrefix a b text) → AppendsPrefix a b text
AppendsPrefix-ended P a b text (Ok done) ok err = AppendsPrefix-all a b text ok
AppendsPrefix-ended P a b text (Err e) ok err = err.1
