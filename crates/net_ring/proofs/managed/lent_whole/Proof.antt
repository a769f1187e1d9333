-- `lent_whole` lends all of what a `&mut [T]` points at, for every T.
use Rattle.net_ring.proofs.Walks.{refl, sym, List, [], ◌∷◌, append-nil, length, named, a_type, inst_fn, Val, full_share}
use Rattle.net_ring.proofs.Walks.{ftrue, fat, flft, ‵, ◌⊛◌, raw, ◌$◌, ◌∵◌, !, qed, move, keep, split, join, fsplit}
use Rattle.net_ring.proofs.Walks.{fsplit3, fjoin, rewrite, use1, suffices, frame, done, whole, sub, look_in, agg, stop}
use Rattle.net_ring.proofs.Walks.{fld, hop, addr, of_opd, load, no_more, and_then, returns, enter, alloc_all, pass_all}
use Rattle.net_ring.proofs.Walks.{free_all, look_at, get, through, sets, no, shows, param, layouts, RattleType, owns}
use Rattle.net_ring.proofs.Walks.{MutBor, MutRef, mut_vals, mut_Tells, cell_at, plain, mut_slice_of, MutSlice}
use Rattle.net_ring.proofs.Walks.{slice_val, nothing, opens, closes, peeks, says, Stays, stay_dropped, walk_of, ends_at}
use Rattle.net_ring.proofs.Walks.{Goes-spent_ref, proved, bare, words_ty, lends_run}
use Rattle.net_ring.specs.contracts.managed.lent_whole as f
use Rattle.net_ring.proofs.managed.lent_whole.Statement.{statement}
use Rattle.net_ring.proofs.managed.lent_whole.Code as code

pub lent_whole_spec : {M : Type 1} → statement M
lent_whole_spec 𝓤 𝓛 𝓜 𝓡 wired X L =
    let R : RattleType = param 0 X in let args = layouts (a_type ∷ []) (X, tt) in let fn = inst_fn args code.function in
    let E = f.ended X in let c = f.clauses X 𝓛 𝓜.mem 𝓡.returns in
    let hs : Stays E.signature.params E.kept = (stay_dropped _ no, tt) in
    proved 𝓛 E hs c 𝓜 𝓡 (
      Goes-spent_ref 𝓛 3 (0 ∷ []) tt (mut_slice_of (1 ∷ []) tt (plain (λ _. R))),
      tt,
    ) (f.Key.name args) fn
    (code.unfolded 𝓤 𝓛.H 𝓜 𝓡 wired (X, tt))
    (λ κs. (mut_vals, tt)) (λ κs. (mut_Tells (named 0) κs.0 (MutSlice (named 1) κs.1.0 R), tt)) (λ κs qs bounds a g are.
    let κ = κs.0 in let q = qs.0 in let b = a.0.ref_ptr.0 in let o = a.0.ref_ptr.1 in let vs = mut_vals a.0 in
    let inner : MutBor (List R.Denot) = a.0.now in let xs : List R.Denot = inner.now in
    let v : Val = slice_val inner.ref_ptr (length xs) in
    let Sl : RattleType = MutSlice (named 1) κs.1.0 R in let Cell =
    λ (us : List Val). ‵ (cell_at full_share Sl.mir us b o) in
    let y : (walk_of 𝓛 E hs c).Ghost = ((κs, qs, bounds, a, (vs, tt)), g) in
    qed 𝓛 (((‵ (flft κ q) ⊛ ‵ (flft κs.1.0 qs.1.0) ⊛ ‵ (flft κs.1.1.0 qs.1.1.0) ⊛ ‵ ftrue) ⊛ ‵
    (owns (MutRef (named 0) κ Sl ∷ []) a (vs, tt))) ∷
    raw ((c κs a).requires g) ∷ []) ∵
    split ! $ split ! $ move ! (2 ∷ []) $ fsplit ! $ fsplit3 ! $ keep ! (1 ∷ 2 ∷ 4 ∷ 5 ∷ []) $
    enter ! _ _ _ _ _ $ alloc_all ! (λ l. pass_all ! refl ((tt, tt), tt) $
    opens ! tt Sl b o (λ us. move ! (1 ∷ []) $ peeks ! Sl _ (shows 𝓛 Sl) inner us (λ ok.
    rewrite ! 1 Cell ok.0.0 refl $ move ! (1 ∷ []) $
    use1 𝓛 (‵ (fat full_share words_ty b o v)) (𝓛.laws.raw_at full_share words_ty b o v) $
    -- [the slice's words; ..]
    sets ! (of_opd ! (load ! (through ! refl (fld ! refl (stop !))) (look_in ! 0 (sub ! 1 refl (whole !))))) refl (
      tt,
      record { fits = ok.0.1.0 },
    ) $
    sets ! (addr ! (through ! refl (fld ! refl (hop ! (look_in ! 0 (sub ! 0 refl (whole !))) (stop !))))) refl (
      tt,
      tt,
    ) $
    use1 𝓛 (‵ (fat full_share (bare words_ty) b o v)) (𝓛.laws.at_raw full_share words_ty b o v) $
    rewrite ! 0 Cell (sym ok.0.0) refl $ closes ! tt Sl inner us b o $
    sets ! (agg ! (and_then ! (get ! refl) (and_then ! (get ! refl) (no_more !)))) refl (
      tt,
      (tt, (record { fits = ok.0.1.0 }, tt)),
    ) $
    lends_run ! tt R κs.1.0 bounds.0 a.0 ok.0.1 0 [] xs [] (sym (append-nil xs)) refl inner.ref_ptr.1 refl ok.0.1 (λ δ.
    -- [the loan; its token; what the reference follows; the other tokens]
    let r : MutBor (List R.Denot) = record { ref_ptr = inner.ref_ptr; ghost_name = δ; now = xs } in
    returns ! (look_at ! 0 refl) $ free_all ! refl $ keep ! (0 ∷ 1 ∷ 2 ∷ 3 ∷ []) $
    suffices ! _ (ends_at 𝓛 E hs c y v r (tt, tt) (tt, tt)) $
    nothing ! $ nothing ! $ fjoin ! $ join ! $ move ! (1 ∷ 3 ∷ []) $ join ! $ join ! $ frame ! $
    says ! refl $ done !)))))
