-- A receiver of a stream that ends, whose runs are in storage.
--     StreamState      what is stored, and how many runs can be held
--     stream_of h xs rs      that of a head, bytes and runs
--     stream_code      as a code
use Rattle.std.specs.Prelude.{ℕ, List, length, refl}
use Rattle.std.specs.Coded.{Coded, code_by, coded×, coded_ℕ}
use Rattle.net_receiver.specs.Finite.{FiniteState, finite_code}
use Rattle.net_receiver.specs.FiniteHead.{finite_of}
use Rattle.net_receiver.specs.declared.finite_receiver_head.FiniteReceiverHead.{FiniteReceiverHead}

-- what a receiver of a stream that ends stores, and how many runs it can hold
pub record StreamState : Type 0 where
  pub most_runs : ℕ
  pub stream : FiniteState

-- that of a head, bytes and runs
abbrev pub stream_of : FiniteReceiverHead → List ℕ → List (ℕ × ℕ) → StreamState
stream_of h xs rs = record { most_runs = length rs; stream = finite_of h xs rs }

-- what is stored, as a code
abbrev pub stream_code : Coded StreamState
stream_code =
    code_by (ℕ × FiniteState) (coded× coded_ℕ finite_code) (λ s. (s.most_runs, s.stream))
    (λ p. record { most_runs = p.0; stream = p.1 }) (λ _. refl)
