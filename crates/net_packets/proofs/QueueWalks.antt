-- Steps of the walks of `enqueue` and `dequeue`, and what these walks cite.
--     lent, Back, lends_inside, comes_inside      a `&mut` is lent for a lifetime inside its own, as for a call, and comes back
--     ok_had, err_had, pair_had, pair_of      what is owned of a `Result` or a pair is taken apart, and a pair is made
--     Given, Self, Asked, asked, lives      a queue of packets: its type parameters, and what a call asks of their lifetimes
pub use mathlib.Core.List.{[], ◌∷◌, List, ◌++◌}
pub use Prim.Native.Nat.{ℕ, ◌<◌, ◌^◌}
pub use seplogic.Ra.Ura.{Ura}
pub use mir.Syntax.{named, Fn, w64}
use base.Fraction.{full_share}
use base.FractionLaws.{common}
use base.Share.{halves, left, right}
pub use base.Logic.{SProp, ent, sep, emp, id⊢}
use base.Logic.{ex, all, all_e, wand, wand_i, apply∗, via, comm∗, mono_l, emp∗}
use base.Fml.{Lft, fdead, ftrue}
pub use base.Fml.{GName, Share, Fml, flft, fres}
pub use types.Logic.{Logic, sem}
pub use types.Kit.{‵, ◌⊛◌, raw, some, later, ◌$◌, ◌∵◌, !, qed, move, split, join, use1, use2, use3, await, pick}
pub use types.Kit.{done, drop, fsplit, fsplit3, feq_i, fjoin, fpack, by, use0, mean, any_q, Post as After}
pub use types.Kit.{rewrite, frame, at_ret, keep, split3, suffices}
use types.Kit.{show, updating, now as at_once, each, assume, Item, Goal, Seq, prop, Step, step, fpick, feq_l}
use types.Tokens.{lft_new, lft_end, lft-common}
use contract.BorrowLft.{meet_⊑_left}
pub use denote.RattleType.{RattleType, Valss, owns}
pub use denote.Ref.{MutBor, MutRef, mut_vals, mut_Tells}
use denote.Lend.{LentAgain, lends_again, comes_back}
pub use mathlib.Core.Path.{◌≡◌, refl, ap, ◌∙◌, sym, subst}
use mathlib.Core.Logic.{◌⊎◌}
pub use mathlib.Core.Logic.{inl, inr, ◌≢◌}
pub use lib.Dec.{T, lit<}
use mir.Syntax.{Ty, tcons, tnil, Args, Dict, a_type, dcons, dnil}
pub use mir.Val.{Val, WT, has_ty, vstruct, of_list, vint, vptr}
use mir.Val.{has_tys, vcons, vnil}
pub use types.Match.{live, vrt}
pub use contract.Monad.{fact, fact_i}
use denote.Laws.{Typed}
pub use denote.Steps.{nothing, only, heard, owned, peeks}
pub use denote.Struct.Struct.{within}
use denote.Struct.Struct.{as_fields}
use denote.Struct.Declared.{shape}
pub use denote.Struct.Tuple.{Tuple}
use denote.Struct.Tuple.{tuple_type}
use Rattle.std.specs.Prelude.{Result}
pub use Rattle.std.specs.Prelude.{Ok, Err, IsErr, OnOk, OnErr, ◌↔◌}
pub use contract.BorrowLft.{◌⊑◌, ⊑_trans, meet_⊑_right}
pub use contract.Lifetimes.{Lfts, Shares, AllOutlive}
use denote.Param.{param, bounded}
use denote.Param.Laws.{Laws}
use Rattle.net_packets.specs.{PacketsState}
use Rattle.net_ring.specs.declared.managed.Storage.{Ghosts}
use Rattle.net_packets.specs.declared.packet_metadata.PacketMetadata.{PacketMetadata}
pub use lib.ListN.{length}
pub use mir.MapTy.{inst_fn}
pub use prog.Wp.{Env, WpFn, Wp, after_seq, at_return}
pub use prog.Model.{Model}
pub use contract.Running.{Running, MachineTables, tables}
pub use types.Run.{stop, fld, addr, lit, of_opd, no_more, and_then, first, switches_on, exec, returns}
pub use types.Run.{returns_within, enter}
pub use types.ByLocal.{lands_as, alloc_all, pass_all, free_all, look_at, get, get_tag, through, sets, env}
pub use types.Part.{agg, whole}
pub use denote.Exit.{no}
pub use denote.Laws.{Is, shows}
pub use denote.Signature.{plain, mut_ref_to}
pub use denote.Builtin.{u8, usize}
pub use denote.Plain.{uint_Makes}
pub use denote.Param.{layout}
pub use denote.Param.Laws.{param_laws}
pub use denote.Array.{Array}
pub use denote.Slice.{MutSlice, slice_val}
unfoldable pub use denote.Follow.{follows, follows_by}
pub use denote.Triple.Clauses.{Clauses, Ended, lasts}
pub use denote.Triple.Entry.{on_entry}
pub use denote.Triple.Spec.{Meets, triple_of}
pub use denote.Triple.Statement.{Contract}
pub use denote.Triple.Table.{framed}
pub use denote.Triple.Call.{calls_at}
pub use denote.Triple.Walked.{Stays, stay_dropped, walk_of, ends_at, Goes-spent_ref}
pub use Rattle.std.proofs.VecSteps.Shapes.{after, front, arm_body}
pub use Rattle.std.proofs.ResultValues.{ok_of, err_of}
use Rattle.std.specs.contracts.result.Result as RS
use Rattle.net_packets.specs.contracts.packet_buffer.PacketsOver as P

-- ---- a `&mut` is lent for a lifetime inside its own, as for a call, and comes back
module _ {M : Type 1} {𝓤 : Ura M} (𝓛 : Logic 𝓤) (κ : Lft) where
  open 𝓛 use {H, A}

  -- the token of a lifetime inside κ ends that lifetime, and gives the token q of κ
  abbrev Ends : Share → ℕ × Share → SProp 𝓤
  Ends q p = wand 𝓤 (A.lft (p.0 ∷ κ) p.1) (H.⇛ (sep 𝓤 (A.dead (p.0 ∷ κ)) (A.lft κ q)))

  abbrev Begun : Share → ℕ × Share → SProp 𝓤
  Begun q p = sep 𝓤 (A.lft (p.0 ∷ κ) p.1) (Ends q p)

  begins : (q : Share) → ent 𝓤 (A.lft κ q) (H.⇛ (ex 𝓤 (Begun q)))
  begins q =
      qed 𝓛 (‵ (flft κ q) ∷ []) ∵ updating ! $ lft_new ! tt (λ a.
      let s : Share = (common full_share q).0 in
      let Both : SProp 𝓤 = sep 𝓤 (A.lft (a ∷ []) full_share) (A.lft κ q) in
      let Back : SProp 𝓤 = wand 𝓤 (A.lft (a ∷ κ) s) Both in
      use2 𝓛 (‵ (flft (a ∷ κ) s) ⊛ raw Back) (lft-common 𝓛 (a ∷ []) κ full_share q) $ split ! $ move ! (1 ∷ []) $
      use1 𝓛 (raw (Ends q (a, s)))
      (wand_i 𝓤 Back (A.lft (a ∷ κ) s) _ (qed 𝓛 (raw Back ∷ ‵ (flft (a ∷ κ) s) ∷ []) ∵ updating ! $
      move ! (1 ∷ 0 ∷ []) $
      use2 𝓛 (‵ (flft (a ∷ []) full_share) ⊛ ‵ (flft κ q)) (apply∗ 𝓤 (A.lft (a ∷ κ) s) Both) $ split ! $ lft_end ! tt $
      use1 𝓛 (‵ (fdead (a ∷ κ))) (𝓛.lfts.dead-incl (a ∷ κ) (a ∷ []) (meet_⊑_left (a ∷ []) κ)) $ at_once ! $ done !)) $
      at_once ! $ show ! (Begun q) (a, s) $ move ! (1 ∷ 0 ∷ []) $ done !)

  module _ (R : RattleType) (q : Share) (s : MutBor R.Denot) where
    -- the reference s at another lifetime, name and value
    abbrev pub lent : Lft → GName → R.Denot → Fml
    lent κ' δ x = (MutRef (named 0) κ' R).own_val (record s { ghost_name = δ; now = x }) (mut_vals s)

    abbrev BackAt : ℕ × Share × GName → R.Denot → SProp 𝓤
    BackAt p y = wand 𝓤 (sep 𝓤 (A.lft (p.0 ∷ κ) p.1) (A.res p.2 (R.coded.code y)))
        (H.⇛ (sep 𝓤 (sem 𝓛 (lent κ s.ghost_name y)) (A.lft κ q)))

    -- what the holder keeps meanwhile
    abbrev pub Back : ℕ × Share × GName → SProp 𝓤
    Back p = all 𝓤 (BackAt p)

    abbrev LentInside : R.Denot → ℕ × Share × GName → SProp 𝓤
    LentInside x p = sep 𝓤 (sem 𝓛 (lent (p.0 ∷ κ) p.2 x)) (sep 𝓤 (A.lft (p.0 ∷ κ) p.1) (Back p))

    abbrev Kept : ℕ → GName → R.Denot → Fml
    Kept a δ x = LentAgain R κ (a ∷ κ) (right q) s.ghost_name s.ref_ptr.0 s.ref_ptr.1 δ x

    back : (x : R.Denot) (p : ℕ × Share) (δ : GName) →
        ent 𝓤 (sep 𝓤 (sem 𝓛 (Kept p.0 δ x)) (Ends (left q) p)) (Back (p.0, p.1, δ))
    back x p δ =
        qed 𝓛 (‵ (Kept p.0 δ x) ∷ raw (Ends (left q) p) ∷ []) ∵ each ! (BackAt (p.0, p.1, δ)) (λ y.
        assume ! (‵ (flft (p.0 ∷ κ) p.1) ⊛ ‵ (fres δ (R.coded.code y))) $ updating ! $ split ! $
        -- [the token; the last value; what was kept; the way to end]
        move ! (0 ∷ 3 ∷ []) $ use2 𝓛 (later (‵ (fdead (p.0 ∷ κ)) ⊛ ‵ (flft κ (left q))))
        (apply∗ 𝓤 (A.lft (p.0 ∷ κ) p.1) _) $ await ! tt $ split ! $
        move ! (0 ∷ 3 ∷ 2 ∷ []) $
        use3 𝓛 (later (‵ (lent κ s.ghost_name y) ⊛ ‵ (flft κ (right q))))
        (comes_back 𝓛 R (named 0) κ (p.0 ∷ κ) (right q) s.ghost_name s.ref_ptr.0 s.ref_ptr.1 δ x y) $
        await ! tt $ split ! $
        move ! (2 ∷ 1 ∷ []) $ use2 𝓛 (‵ (flft κ q)) (𝓛.lfts.lft_glue κ q (left q) (right q) (halves q)) $ at_once ! $
        move ! (1 ∷ 0 ∷ []) $ done !)

    pub lends_inside : (x : R.Denot) →
        ent 𝓤 (sep 𝓤 (sem 𝓛 (lent κ s.ghost_name x)) (A.lft κ q)) (H.⇛ (ex 𝓤 (LentInside x)))
    lends_inside x =
        qed 𝓛 (‵ (lent κ s.ghost_name x) ∷ ‵ (flft κ q) ∷ []) ∵ updating ! $ move ! (1 ∷ []) $
        use1 𝓛 (‵ (flft κ (left q)) ⊛ ‵ (flft κ (right q)))
        (𝓛.lfts.lft_cut κ q (left q) (right q) (halves q)) $ split ! $
        use1 𝓛 (later (some (λ (p : ℕ × Share). ‵ (flft (p.0 ∷ κ) p.1) ⊛ raw (Ends (left q) p))))
        (begins (left q)) $ await ! tt $
        pick ! (λ p. split ! $ move ! (3 ∷ 2 ∷ []) $
        use2 𝓛 (later (some (λ (δ : GName). ‵ (lent (p.0 ∷ κ) δ x) ⊛ ‵ (Kept p.0 δ x))))
        (lends_again 𝓛 R (named 0) κ (p.0 ∷ κ) (right q) s.ghost_name s.ref_ptr.0 s.ref_ptr.1 (named 0) x) $
        await ! tt $ pick ! (λ δ. split ! $
        -- [the loan; what is kept; the token; the way to end]
        move ! (1 ∷ 3 ∷ []) $ use2 𝓛 (raw (Back (p.0, p.1, δ))) (back x p δ) $ at_once ! $
        show ! (LentInside x) (p.0, p.1, δ) $ move ! (1 ∷ 2 ∷ 0 ∷ []) $
        done !))

    pub comes_inside : (p : ℕ × Share × GName) (y : R.Denot)
        → ent 𝓤 (sep 𝓤 (A.lft (p.0 ∷ κ) p.1) (sep 𝓤 (A.res p.2 (R.coded.code y)) (Back p)))
        (H.⇛ (sep 𝓤 (sem 𝓛 (lent κ s.ghost_name y)) (A.lft κ q)))
    comes_inside p y =
        qed 𝓛 (‵ (flft (p.0 ∷ κ) p.1) ∷ ‵ (fres p.2 (R.coded.code y)) ∷ raw (Back p) ∷ []) ∵ updating ! $
        move ! (2 ∷ []) $
        use1 𝓛 (raw (BackAt p y)) (all_e 𝓤 (BackAt p) y) $ move ! (1 ∷ 2 ∷ []) $ join ! $
        use2 𝓛 (later (‵ (lent κ s.ghost_name y) ⊛ ‵ (flft κ q)))
        (apply∗ 𝓤 (sep 𝓤 (A.lft (p.0 ∷ κ) p.1) (A.res p.2 (R.coded.code y))) _) $ await ! tt $
        split ! $ at_once ! $ done !

-- ---- what is owned of a `Result` that a call returned is taken apart, and an error or a pair is made
-- the machine value of a struct with no fields
abbrev pub no_fields : Val
no_fields = vstruct vnil

-- a value of one machine type is one machine value
pub alone : (τ : Ty) (vs : List Val) → Typed (τ ∷ []) vs → (v : Val) × (vs ≡ v ∷ []) × (T (has_ty τ v) × WT v)
alone τ [] t = absurd t
alone τ (v ∷ []) t = (v, refl, t.0)
alone τ (v ∷ u ∷ us) t = absurd t.1

pub ok_or_err : {A E : Type 0} (r : Result A E) → ((x : A) × (r ≡ Ok x)) ⊎ ((e : E) × (r ≡ Err e))
ok_or_err (Ok x) = inl (x, refl)
ok_or_err (Err e) = inr (e, refl)

abbrev pub pair_val : Val → Val → Val
pair_val u v = vstruct (vcons u (vcons v vnil))

pub pair_typed : (σ τ : Ty) (u v : Val) → T (has_ty σ u) × WT u → T (has_ty τ v) × WT v →
    T (has_tys (tcons σ (tcons τ tnil)) (vcons u (vcons v vnil))) × WT (pair_val u v)
pair_typed σ τ u v s t = as_fields (σ ∷ τ ∷ []) (u ∷ v ∷ []) (s, (t, tt))

pub pair_of : {M : Type 1} {𝓤 : Ura M} (𝓛 : Logic 𝓤) (R S : RattleType) (x : R.Denot) (y : S.Denot) (u v : Val)
    → ent 𝓤 (sep 𝓤 (sem 𝓛 (R.own_val x (u ∷ []))) (sem 𝓛 (S.own_val y (v ∷ []))))
    (sem 𝓛 ((Tuple (R ∷ S ∷ [])).own_val (x, y) (pair_val u v ∷ [])))
pair_of 𝓛 R S x y u v =
    qed 𝓛 (‵ (R.own_val x (u ∷ [])) ∷ ‵ (S.own_val y (v ∷ [])) ∷ []) ∵ nothing ! $ move ! (2 ∷ 0 ∷ []) $ fjoin ! $
    move ! (1 ∷ 0 ∷ []) $ fjoin ! $
    feq_i ! (List Val) (pair_val u v ∷ []) (pair_val u v ∷ []) refl $ fjoin ! $
    fpack ! (Valss (R ∷ S ∷ [])) (within (shape (tuple_type (R ∷ S ∷ []))) (x, (y, tt)) (pair_val u v ∷ [])) (
      u ∷ [],
      (v ∷ [], tt),
    ) $ done !

-- a goal P ∗ F, where F is several facts: they are shown, and P is left
pub and_fact : {M : Type 1} (𝓤 : Ura M) (φ : Type 0) (F : SProp 𝓤) → φ → ent 𝓤 (emp 𝓤) F →
    ent 𝓤 (emp 𝓤) (sep 𝓤 (fact 𝓤 φ) F)
and_fact 𝓤 φ F x f = via 𝓤 (sep 𝓤 (emp 𝓤) F) (via 𝓤 F f (emp∗ 𝓤 F)) (mono_l 𝓤 F (fact_i 𝓤 φ (emp 𝓤) x))

pub says_all : {M : Type 1} {𝓤 : Ura M} {𝓛 : Logic 𝓤} {K : Type 0} {Γ : List (Item 𝓤)} → K →
    {P F : SProp 𝓤} → ent 𝓤 (emp 𝓤) F
    → Step K 𝓛 Γ (prop P) Γ (prop (sep 𝓤 P F))
says_all {𝓤 = 𝓤} t {P} {F} f =
    step (λ s. record {
      prf =
          via 𝓤 P s.prf (via 𝓤 (sep 𝓤 (emp 𝓤) P) (emp∗ 𝓤 P) (via 𝓤 (sep 𝓤 F P) (mono_l 𝓤 P f) (comm∗ 𝓤 F P)));
    })

module _ {M : Type 1} {𝓤 : Ura M} {𝓛 : Logic 𝓤} {K : Type 0} {Γ : List (Item 𝓤)} {G : Goal 𝓤 𝓛.H} where
  -- what is owned at `Ok` and at `Err`
  pub ok_had : K → (R E : RattleType) (x : R.Denot) (v : Val)
      → ((us : List Val) → v ≡ live 0 (of_list (us ++ [])) → Seq K 𝓛 (‵ (R.own_val x us) ∷ Γ) G) →
      Seq K 𝓛 (‵ ((RS.the_row R E).own_val (Ok x) (v ∷ [])) ∷ Γ) G
  ok_had t R E x v k =
      fpick t (λ ps. fsplit t $ feq_l t
      (λ e. fpick t (λ vss. fsplit t $
      feq_l t (λ f. fsplit t $ move t (1 ∷ []) $ drop t $
      k vss.0 (ap only e ∙ ap (λ (l : List Val). live 0 (of_list l)) f)))))

  pub err_had : K → (R E : RattleType) (x : E.Denot) (v : Val)
      → ((us : List Val) → v ≡ live 1 (of_list (us ++ [])) → Seq K 𝓛 (‵ (E.own_val x us) ∷ Γ) G) →
      Seq K 𝓛 (‵ ((RS.the_row R E).own_val (Err x) (v ∷ [])) ∷ Γ) G
  err_had t R E x v k =
      fpick t (λ ps. fsplit t $ feq_l t
      (λ e. fpick t (λ vss. fsplit t $
      feq_l t (λ f. fsplit t $ move t (1 ∷ []) $ drop t $
      k vss.0 (ap only e ∙ ap (λ (l : List Val). live 1 (of_list l)) f)))))

  -- the two parts of a pair
  pub pair_had : K → (R S : RattleType) (x : R.Denot) (y : S.Denot) (ws : List Val)
      → ((us vs : List Val) → ws ≡ vstruct (of_list (us ++ (vs ++ []))) ∷ [] →
      Seq K 𝓛 (‵ (R.own_val x us) ∷ ‵ (S.own_val y vs) ∷ Γ) G) →
      Seq K 𝓛 (‵ ((Tuple (R ∷ S ∷ [])).own_val (x, y) ws) ∷ Γ) G
  pair_had t R S x y ws k =
      fpick t (λ vss. fsplit t $ feq_l t (λ e. fsplit3 t $ move t (2 ∷ []) $ drop t $ k vss.0 vss.1.0 e))

-- ---- a queue of packets in a walk: its type parameters, and what a call on it asks of their lifetimes
-- the headers, the storage of the slots and that of the bytes, and how their traits are passed
pub record Given : Type 2 where
  pub H : RattleType
  pub N : RattleType
  pub B : RattleType
  pub laws : Laws H
  pub slots : Ghosts N.Denot (PacketMetadata H.Denot)
  pub slots_by : Dict
  pub bytes : Ghosts B.Denot ℕ
  pub bytes_by : Dict
  pub drops_by : Dict

module _ (G : Given) where
  abbrev pub args : Args
  args = bounded (a_type ∷ a_type ∷ a_type ∷ []) (G.H, (G.N, (G.B, tt)))
      (dcons G.slots_by (dcons G.bytes_by (dcons G.drops_by dnil)))

  abbrev pub Header : RattleType
  Header = param 0 G.H

  abbrev pub Self : RattleType
  Self = P.the_row Header (param 1 G.N) (param 2 G.B) G.slots G.bytes

  abbrev pub Q : Type 0
  Q = PacketsState G.H.Denot

  -- the lifetimes after the first are those of the type parameters
  abbrev pub Live : Lfts 4 → Type 0
  Live κs = (κs.1.0 ⊑ G.H.lives) × (κs.1.1.0 ⊑ G.N.lives) × (κs.1.1.1.0 ⊑ G.B.lives)

  module _ {M : Type 1} (𝓤 : Ura M) (κs : Lfts 4) where
    -- their tokens
    abbrev pub others : Shares 4 → Item 𝓤
    others qs = ‵ (flft κs.1.0 qs.1.0) ⊛ ‵ (flft κs.1.1.0 qs.1.1.0) ⊛ ‵ (flft κs.1.1.1.0 qs.1.1.1.0) ⊛ ‵ ftrue

    -- what a call requires that requires P
    abbrev pub Asked : SProp 𝓤 → SProp 𝓤
    Asked P = sep 𝓤 (fact 𝓤 (κs.1.0 ⊑ G.H.lives))
        (sep 𝓤 (fact 𝓤 (κs.1.1.0 ⊑ G.N.lives)) (sep 𝓤 (fact 𝓤 (κs.1.1.1.0 ⊑ G.B.lives)) P))

  pub asked : {M : Type 1} {𝓤 : Ura M} (𝓛 : Logic 𝓤) (κs : Lfts 4) → Live κs → (P : SProp 𝓤) → ent 𝓤 P (Asked 𝓤 κs P)
  asked {𝓤 = 𝓤} 𝓛 κs live P =
      qed 𝓛 (raw P ∷ []) ∵ use0 𝓛 (raw (fact 𝓤 (κs.1.1.1.0 ⊑ G.B.lives))) (fact_i 𝓤 _ (emp 𝓤) live.2) $ join ! $
      use0 𝓛 (raw (fact 𝓤 (κs.1.1.0 ⊑ G.N.lives))) (fact_i 𝓤 _ (emp 𝓤) live.1) $ join ! $
      use0 𝓛 (raw (fact 𝓤 (κs.1.0 ⊑ G.H.lives))) (fact_i 𝓤 _ (emp 𝓤) live.0) $ join ! $ done !

  -- what a call of such a queue is given says the lifetimes
  pub lives : {M : Type 1} {𝓤 : Ura M} (𝓛 : Logic 𝓤) (κs : Lfts 4) (P R : SProp 𝓤) → (Live κs → ent 𝓤 P R) →
      ent 𝓤 (sep 𝓤 P (Asked 𝓤 κs (emp 𝓤))) R
  lives {𝓤 = 𝓤} 𝓛 κs P R k =
      qed 𝓛 (raw P ∷ raw (fact 𝓤 (κs.1.0 ⊑ G.H.lives)) ∷ raw (fact 𝓤 (κs.1.1.0 ⊑ G.N.lives)) ∷ raw
      (fact 𝓤 (κs.1.1.1.0 ⊑ G.B.lives)) ∷ ‵ ftrue ∷ []) ∵
      move ! (1 ∷ []) $ heard ! _ (λ lH. move ! (1 ∷ []) $
      heard ! _ (λ lN. move ! (1 ∷ []) $ heard ! _ (λ lB. move ! (1 ∷ []) $ drop ! $
      by ! (k (lH, lN, lB)))))
