-- `Requests::refuses_next` and `gives_back` at a call: what each is handed, and what a caller has of it.
-- Assumes `Logic`.
use Rattle.std.proofs.Common.{◌≡◌, ◌<◌, ◌^◌, ℕ, w64, Bool, List, [], ◌∷◌, refl, ap}
use seplogic.Ra.Ura.{Ura}
use mir.Val.{Val, vbool, vint, vptr, vunit}
use base.Logic.{SProp, ent, sep, ex, guard, id⊢}
use base.Fml.{Lft, Share, ftrue, fsep, flft}
use prog.Memory.{Memory}
use prog.Routine.{Routine}
use types.Logic.{Logic, sem}
use contract.Monad.{Fun}
use types.Kit.{‵, ◌⊛◌, some, later, raw, ◌$◌, ◌∵◌, !, qed, move, keep, use1, split, join, pick, fjoin, feq_i, feq_l}
use types.Kit.{flt_i, show, check, await, updating, now as at_once, done}
use denote.RattleType.{RattleType}
use denote.Memory.{hidden_shr}
use denote.Builtin.{bool, unit}
use denote.Steps.{nothing, only}
use denote.Triple.Statement.{Contract}
use denote.Triple.Spec.{triple_of}
use Rattle.net_tests.specs.contracts.testing.requests.Requests as requests
use Rattle.net_tests.specs.contracts.testing.requests.Requests.refuses_next as counted
use Rattle.net_tests.specs.contracts.testing.requests.Requests.gives_back as returned

abbrev pub Counter : RattleType
Counter = requests.the_row

module _ {M : Type 1} {𝓤 : Ura M} (𝓛 : Logic 𝓤) (at_mem : Memory → SProp 𝓤) (run : Routine → Fun 𝓤) where
  abbrev pub Counts : Contract 𝓤
  Counts = triple_of 𝓛 counted.signature (counted.spec 𝓛 at_mem run)

  abbrev pub at_counts : Lft → Share → ℕ × ℕ → Counter.Denot → ℕ → Counts.Ghost
  at_counts κ q c n s = (
    (
      (κ, tt),
      (q, tt),
      tt,
      (record { ref_ptr = c; now = n }, (s, tt)),
      (vptr c.0 c.1 ∷ [], (vint w64 s ∷ [], tt)),
    ),
    tt,
  )

  abbrev pub Returns : Contract 𝓤
  Returns = triple_of 𝓛 returned.signature (returned.spec 𝓛 at_mem run)

  abbrev pub at_returns : Lft → Share → ℕ × ℕ → Counter.Denot → ℕ → Returns.Ghost
  at_returns κ q c n s = (
    (
      (κ, tt),
      (q, tt),
      tt,
      (record { ref_ptr = c; now = n }, (s, tt)),
      (vptr c.0 c.1 ∷ [], (vint w64 s ∷ [], tt)),
    ),
    tt,
  )

module _ {M : Type 1} {𝓤 : Ura M} (𝓛 : Logic 𝓤) (at_mem : Memory → SProp 𝓤) (run : Routine → Fun 𝓤) (κ : Lft)
    (q : Share) (c : ℕ × ℕ) (n : Counter.Denot)
    (s : ℕ) where
  open 𝓛 use {H, A}

  pub Counts-goes : s < 2 ^ 64 → ent 𝓤 (sep 𝓤 (sem 𝓛 (hidden_shr Counter κ n c.0 c.1)) (A.lft κ q))
      ((Counts 𝓛 at_mem run).pre (at_counts 𝓛 at_mem run κ q c n s))
  Counts-goes fs =
      qed 𝓛 (‵ (hidden_shr Counter κ n c.0 c.1) ∷ ‵ (flft κ q) ∷ []) ∵
      nothing ! $ flt_i ! s (2 ^ 64) fs $ feq_i ! (List Val) (vint w64 s ∷ [])
      (vint w64 s ∷ []) refl $ fjoin ! $ fjoin ! $
      move ! (1 ∷ []) $ feq_i ! (List Val) (vptr c.0 c.1 ∷ []) (vptr c.0 c.1 ∷ []) refl $ fjoin ! $ move !
      (0 ∷ 1 ∷ []) $ fjoin ! $ nothing ! $
      move ! (2 ∷ []) $ join ! $ join ! $ nothing ! $ move ! (1 ∷ []) $ done !

  abbrev pub Counted : Val → SProp 𝓤
  Counted v = ex 𝓤 (λ (t : Bool). guard 𝓤 (v ≡ vbool t) (A.lft κ q))

  pub Counts-gives : (v : Val) → ent 𝓤 ((Counts 𝓛 at_mem run).post (at_counts 𝓛 at_mem run κ q c n s) v)
      (H.⇛ (Counted v))
  Counts-gives v =
      qed 𝓛 (raw ((Counts 𝓛 at_mem run).post (at_counts 𝓛 at_mem run κ q c n s) v) ∷ []) ∵ updating ! $
      use1 𝓛 (later (some (λ (t : Bool). ((‵ (flft κ q) ⊛ ‵ ftrue) ⊛ ‵ (bool.own_val t (v ∷ []))) ⊛
      some (λ (ws : Unit {0} × (Unit {0} × Unit {0})). ‵ (fsep ftrue (fsep ftrue ftrue)) ⊛ ‵ ftrue))))
      (id⊢ 𝓤 _) $ await ! tt $ pick ! (λ t.
      split ! $ split ! $ move ! (1 ∷ []) $
      feq_l ! (λ e. split ! $ at_once ! $ show ! (λ (z : Bool). guard 𝓤 (v ≡ vbool z) (A.lft κ q)) t $ check !
      (ap only e) $ keep ! (0 ∷ []) $ done !))

  pub Returns-goes : s < 2 ^ 64 → ent 𝓤 (sep 𝓤 (sem 𝓛 (hidden_shr Counter κ n c.0 c.1)) (A.lft κ q))
      ((Returns 𝓛 at_mem run).pre (at_returns 𝓛 at_mem run κ q c n s))
  Returns-goes fs = Counts-goes fs

  pub Returns-gives : (v : Val) → ent 𝓤 ((Returns 𝓛 at_mem run).post (at_returns 𝓛 at_mem run κ q c n s) v)
      (H.⇛ (guard 𝓤 (v ≡ vunit) (A.lft κ q)))
  Returns-gives v =
      qed 𝓛 (raw ((Returns 𝓛 at_mem run).post (at_returns 𝓛 at_mem run κ q c n s) v) ∷ []) ∵ updating ! $
      use1 𝓛 (later (some (λ (r : Unit {0}). ((‵ (flft κ q) ⊛ ‵ ftrue) ⊛ ‵ (unit.own_val r (v ∷ []))) ⊛
      some (λ (ws : Unit {0} × (Unit {0} × Unit {0})). ‵ (fsep ftrue (fsep ftrue ftrue)) ⊛ ‵ ftrue))))
      (id⊢ 𝓤 _) $ await ! tt $ pick ! (λ r.
      split ! $ split ! $ move ! (1 ∷ []) $
      feq_l ! (λ e. split ! $ at_once ! $ check ! (ap only e) $ keep ! (0 ∷ []) $ done !))
