-- The texts of moments and lengths of time.
use Rattle.std.proofs.Common.{◌≡◌, suc, ℤ, refl, sym, ◌∙◌, arith, List, [], ◌∷◌, ℕ, zero, ◌-◌, ◌^◌, true, false, length}
use Rattle.std.proofs.Common.{replicate, pos, negsuc, ap, append-nil, append_assoc, ◌++◌, subst}
use Rattle.net_base.specs.Time.{three_decimals}
use Rattle.std.proofs.Math.Nat.{sub-zero, sub_self}
use Rattle.std.proofs.lemmas.Bool.{le-ltb}
use Rattle.std.specs.List.{repeat, concat, FoldsTo}
use Rattle.std.specs.Fmt.{padded_integral, char_count, format_spec, decimal, signed_decimal, styled_decimal}
use Rattle.std.specs.Fmt.{styled_signed_decimal, WritesInCalls}
use Rattle.std.specs.Fmt.InlineText.{inline_text, IsIntact, AppendsIfIntact}
use Rattle.std.specs.declared.fmt.InlineText.{InlineText}

-- ---- a fill by the digit 0 to three places
repeat_zeros : (n : ℕ) → repeat {A = ℕ} n (48 ∷ []) ≡ replicate n 48
repeat_zeros zero = refl
repeat_zeros (suc n) = ap (λ (t : List ℕ). 48 ∷ t) (repeat_zeros n)

-- `{:0>3}` of a number that isn't negative
filled : (numeral : List ℕ) → padded_integral (format_spec 48 3 0 3 (2 ^ 64 - 1)) false [] numeral
    ≡ three_decimals numeral
unfolding padded_integral char_count lib.Utf8.encode
filled numeral = simp (sub-zero, sub_self, repeat_zeros, append-nil)

-- and of a negative one
filled_negative : (numeral : List ℕ) → padded_integral (format_spec 48 3 0 3 (2 ^ 64 - 1)) true [] numeral
    ≡ three_decimals (45 ∷ numeral)
unfolding padded_integral char_count lib.Utf8.encode
filled_negative numeral =
    let short : 3 - length numeral - 1 ≡ 3 - suc (length numeral) = omega arith in
    simp (sub-zero, sub_self, short, repeat_zeros, append-nil, append_assoc)

pub styled_unsigned : (n : ℕ) → styled_decimal (format_spec 48 3 0 3 (2 ^ 64 - 1)) n ≡ three_decimals (decimal n)
styled_unsigned n = filled (decimal n)

pub styled_signed : (z : ℤ) → styled_signed_decimal (format_spec 48 3 0 3 (2 ^ 64 - 1)) z
    ≡ three_decimals (signed_decimal z)
styled_signed (pos n) = rw (le-ltb n 0 (omega arith)) (filled (decimal n))
styled_signed (negsuc n) = filled_negative (decimal (suc n))

-- ---- several writes to a text of fixed room
module _ {n : ℕ} where
  after_calls : (s : InlineText n) (parts : List (List ℕ)) (t : InlineText n) → FoldsTo AppendsIfIntact s parts t →
      AppendsIfIntact s (concat parts) t
  after_calls s [] t same intact =
      (subst IsIntact same intact, ap inline_text (sym same) ∙ sym (append-nil (inline_text s)))
  after_calls s (x ∷ parts) t calls intact =
      let first = calls.1 intact in
      let rest = after_calls calls.0 parts t calls.2 first.0 in
      (rest.0, rest.1 ∙ ap (λ l. l ++ concat parts) first.1 ∙ append_assoc (inline_text s) x (concat parts))

  -- a text that was empty is what was written
  pub text_written : (s : InlineText n) (bs : List ℕ) (t : InlineText n) → IsIntact s → inline_text s ≡ [] →
      WritesInCalls AppendsIfIntact s bs t → inline_text t ≡ bs
  text_written s bs t intact empty wrote =
      (after_calls s wrote.parts t wrote.calls intact).1 ∙ ap (λ l. l ++ concat wrote.parts) empty ∙ wrote.whole
