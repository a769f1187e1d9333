-- Two modes that treat their states alike write one text and find one fault.
use Rattle.std.proofs.Common.{◌≡◌, ℕ, List, [], ◌∷◌, ◌++◌, length, cond, true, false, nat_lt, Some, Result, Ok, Err}
use Rattle.std.proofs.Common.{refl, ap, ◌∙◌}
use Rattle.net_bench_lib.specs.Text.{words_of, next_number}
use Rattle.net_bench_lib.specs.Transcript.{Rules, line_step, by_step, text_of, error_at, first_fault, transcript}
use Rattle.net_bench_lib.specs.declared.fault.Fault.{Fault}
use Rattle.net_bench_lib.specs.declared.fault.Fault.TheVariants as faults
use Rattle.net_bench_lib.specs.declared.limits.TheConstants.{MAX_LINE}

-- what two lines did is alike: states that are alike and one reply, or one fault
abbrev pub AlikeAfter : {S T : Type 0} → (S → T → Type 0) → Result (S × List ℕ) Fault →
    Result (T × List ℕ) Fault → Type 0
AlikeAfter Alike (Ok a) (Ok b) = Alike a.0 b.0 × (a.1 ≡ b.1)
AlikeAfter Alike (Err e) (Err f) = e ≡ f
AlikeAfter Alike _ _ = ⊥

-- lines treat states that are alike alike
abbrev pub TreatsAlike : {S T : Type 0} → (S → T → Type 0) → Rules S → Rules T → Type 0
TreatsAlike {S} {T} Alike rules others = (s : S) (t : T) (words : List (List ℕ)) → Alike s t →
    AlikeAfter Alike (rules s words) (others t words)

module _ {S T : Type 0} (Alike : S → T → Type 0) (rules : Rules S) (others : Rules T)
    (steps : TreatsAlike Alike rules others) where
  line_alike : (s : S) (t : T) (line : List ℕ) → Alike s t →
      AlikeAfter Alike (line_step rules s line) (line_step others t line)
  line_alike s t line a =
      elim (nat_lt MAX_LINE (length line)) as (λ long. AlikeAfter Alike
      (cond long (Err faults.LineTooLong) (rules s (words_of line)))
      (cond long (Err faults.LineTooLong) (others t (words_of line)))) [
        | true ↦ refl
        | false ↦ steps s t (words_of line) a
      ]

  same_step : {X : Type 0} (go : S → List ℕ → X) (other_go : T → List ℕ → X) (stop : Fault → X) →
      ((s : S) (t : T) (reply : List ℕ) → Alike s t → go s reply ≡ other_go t reply) → (r : Result (S × List ℕ) Fault)
      (q : Result (T × List ℕ) Fault) → AlikeAfter Alike r q → by_step go stop r ≡ by_step other_go stop q
  same_step go other_go stop more (Ok a) (Ok b) h = more a.0 b.0 a.1 h.0 ∙ ap (other_go b.0) h.1
  same_step go other_go stop more (Err e) (Err f) h = ap stop h
  same_step go other_go stop more r q h = absurd h

  same_text : (closing : S → List ℕ) (other_closing : T → List ℕ) →
      ((s : S) (t : T) → Alike s t → closing s ≡ other_closing t) →
      (lines : List (List ℕ)) (s : S) (t : T) → Alike s t →
      text_of rules closing s lines ≡ text_of others other_closing t lines
  same_text closing other_closing closes [] s t a = closes s t a
  same_text closing other_closing closes (line ∷ lines) s t a =
      same_step (λ next reply. reply ++ text_of rules closing next lines) (λ next reply. reply
      ++ text_of others other_closing next lines) (λ _. [])
      (λ s t reply a. ap (λ text. reply ++ text) (same_text closing other_closing closes lines s t a))
      (line_step rules s line) (line_step others t line) (line_alike s t line a)

  same_fault : (lines : List (List ℕ)) (n : ℕ) (s : S) (t : T) → Alike s t →
      first_fault rules n s lines ≡ first_fault others n t lines
  same_fault [] n s t a = refl
  same_fault (line ∷ lines) n s t a =
      same_step (λ next reply. first_fault rules (next_number n) next lines)
      (λ next reply. first_fault others (next_number n) next lines)
      (λ fault. Some (error_at n fault)) (λ s t reply. same_fault lines (next_number n) s t)
      (line_step rules s line) (line_step others t line) (line_alike s t line a)

  -- one text, one list of replies and one fault, for every list of lines
  pub same_transcript : (closing : S → List ℕ) (other_closing : T → List ℕ) →
      ((s : S) (t : T) → Alike s t → closing s ≡ other_closing t) →
      (n : ℕ) (s : S) (t : T) → Alike s t → transcript rules closing n s ≡ transcript others other_closing n t
  same_transcript closing other_closing closes n s t a = λ i. record {
    text = λ lines. same_text closing other_closing closes lines s t a i;
    replies = λ lines. same_text (λ _. []) (λ _. []) (λ _ _ _. refl) lines s t a i;
    fault = λ lines. same_fault lines n s t a i;
  }
