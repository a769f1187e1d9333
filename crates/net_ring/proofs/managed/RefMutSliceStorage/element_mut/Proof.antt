-- `element_mut` at a `&mut [T]` lends an element of what the reference points at, for every T.
use Rattle.net_ring.proofs.Walks.{refl, sym, ℕ, List, [], ◌∷◌, length, named, a_type, inst_fn, Val, vptr, full_share}
use Rattle.net_ring.proofs.Walks.{GName, ftrue, fat, flft, ◌⊑◌, ‵, ◌⊛◌, given, some, later, ◌$◌, ◌∵◌, !, qed, move}
use Rattle.net_ring.proofs.Walks.{keep, drop, split, split3, join, fsplit, fsplit3, fjoin, rewrite, use1, use2, use3}
use Rattle.net_ring.proofs.Walks.{await, pick, suffices, frame, done, whole, sub, look_in, stop, fld, addr, load}
use Rattle.net_ring.proofs.Walks.{returns, enter, alloc_all, pass_all, free_all, look_at, get, through, sets, no}
use Rattle.net_ring.proofs.Walks.{follows, follows_then, lends_inner_slice, renamed, Array, shows, param, layouts}
use Rattle.net_ring.proofs.Walks.{RattleType, owns, MutBor, MutRef, at_last, mut_vals, mut_Tells, cell_at, plain}
use Rattle.net_ring.proofs.Walks.{mut_slice_of, MutSlice, slice_val, mut_slice_vals, nothing, opens, closes, peeks}
use Rattle.net_ring.proofs.Walks.{says, Stays, stay_dropped, walk_of, ends_at, Goes-spent_ref, subst, ap, ◌+◌, ◌^◌, ◌<◌}
use Rattle.net_ring.proofs.Walks.{w64, vint, learn, usize, yes, mem, uint_vals, uint_Tells, Goes-dropped, ◌*◌, arith}
use Rattle.net_ring.proofs.Walks.{size, bin, size_word, is, layout, at_mul, uncapped, set, coded_list, fobs, fbor}
use Rattle.net_ring.proofs.Walks.{fjoin3, feq_i, Body, heres_id, proved, takes_at, bare, words_ty, run_fits, element_at}
use Rattle.net_ring.specs.contracts.managed.RefMutSliceStorage.element_mut as f
use Rattle.net_ring.proofs.managed.RefMutSliceStorage.element_mut.Statement.{statement}
use Rattle.net_ring.proofs.managed.RefMutSliceStorage.element_mut.Code as code

pub element_mut_spec : {M : Type 1} → statement M
element_mut_spec 𝓤 𝓛 𝓜 𝓡 wired X L =
    let R : RattleType = param 0 X in let args = layouts (a_type ∷ []) (X, tt) in let fn = inst_fn args code.function in
    let E = f.ended X in let c = f.clauses X 𝓛 𝓜.mem 𝓡.returns in let s : ℕ = size (layout X) in
    let hs : Stays E.signature.params E.kept = (stay_dropped _ no, (stay_dropped _ yes, tt)) in
    proved 𝓛 E hs c 𝓜 𝓡 (
      Goes-spent_ref 𝓛 3 (0 ∷ []) tt (mut_slice_of (1 ∷ []) tt (plain (λ _. R))),
      (Goes-dropped 𝓛 3 (plain (λ _. usize)) yes (λ κs x w. refl), tt),
    )
    (f.Key.name args) fn (code.unfolded 𝓤 𝓛.H 𝓜 𝓡 wired (X, tt)) (λ κs. (mut_vals, (uint_vals w64, tt)))
    (λ κs. (mut_Tells (named 0) κs.0 (MutSlice (named 1) κs.1.0 R), (uint_Tells w64, tt))) (λ κs qs bounds a g are.
    let κ = κs.0 in let q = qs.0 in let b = a.0.ref_ptr.0 in let o = a.0.ref_ptr.1 in let m : ℕ = a.1.0 in
    let vss : List Val × (List Val × Unit {0}) = (mut_vals a.0, (vint w64 m ∷ [], tt)) in
    let inner : MutBor (List R.Denot) = a.0.now in let xs : List R.Denot = inner.now in
    let v : Val = slice_val inner.ref_ptr (length xs) in
    let Sl : RattleType = MutSlice (named 1) κs.1.0 R in let Cell =
    λ (us : List Val). ‵ (cell_at full_share Sl.mir us b o) in
    let y : (walk_of 𝓛 E hs c).Ghost = ((κs, qs, bounds, a, vss), g) in
    qed 𝓛 (((‵ (flft κ q) ⊛ ‵ (flft κs.1.0 qs.1.0) ⊛ ‵ (flft κs.1.1.0 qs.1.1.0) ⊛ ‵ ftrue) ⊛ ‵
    (owns (MutRef (named 0) κ Sl ∷ usize ∷ []) a vss)) ∷
    (given (κs.1.1.0 ⊑ X.lives) (‵ ftrue) ⊛ given (m < length xs) (‵ ftrue)) ∷ []) ∵
    move ! (1 ∷ []) $ split ! $ drop ! $ learn ! (λ inside. drop ! $
    split ! $ split ! $ move ! (2 ∷ []) $ fsplit ! $ fsplit3 ! $ keep ! (1 ∷ 2 ∷ 4 ∷ 5 ∷ []) $
    enter ! _ _ _ _ _ $ alloc_all ! (λ l. pass_all ! refl ((tt, tt), ((tt, record { fits = are.1.0.1 }), tt)) $
    opens ! tt Sl b o (λ us. move ! (1 ∷ []) $ peeks ! Sl _ (shows 𝓛 Sl) inner us (λ ok.
    let fit = run_fits m m (length xs) s (omega arith, omega arith) ok.0.1 in let there = element_at xs m inside in
    rewrite ! 1 Cell ok.0.0 refl $ move ! (1 ∷ []) $
    use1 𝓛 (‵ (fat full_share words_ty b o v)) (𝓛.laws.raw_at full_share words_ty b o v) $
    -- [the slice's words; ..]
    sets ! (is ! (bin ! (get ! refl) (size_word !)
    (record { fits = subst (λ (k : ℕ). k < 2 ^ 64) (sym (uncapped m s fit.0)) fit.0 }))
    (ap (vint w64) (uncapped m s fit.0))) refl (tt, record { fits = fit.0 }) $
    sets ! (bin ! (load ! (through ! refl (fld ! refl (stop !))) (look_in ! 0 (sub ! 0 refl (whole !)))) (get ! refl)
    tt) refl (tt, tt) $
    use1 𝓛 (‵ (fat full_share (bare words_ty) b o v)) (𝓛.laws.at_raw full_share words_ty b o v) $
    rewrite ! 0 Cell (sym ok.0.0) refl $ closes ! tt Sl inner us b o $
    sets ! (addr ! (through ! refl (stop !))) refl (tt, tt) $
    use3 𝓛 (later (some (λ (δ : GName). ‵ ((MutSlice (named 0) κ R).own_val (renamed inner δ) (mut_slice_vals inner))
    ⊛ ‵ (flft κ q) ⊛
    ‵ (follows Sl (Array R 0) a.0.ghost_name δ (at_last inner)))))
    (lends_inner_slice 𝓛 R (named 0) (named 1) κ κs.1.0 a.0 bounds.0 ok.0.1 q) $ await ! tt $
    pick ! (λ δ. split3 ! $ fsplit3 ! $ drop ! $
    rewrite ! 0 (λ (l : List R.Denot). ‵ (fobs δ ((coded_list R.coded).code l))) (heres_id R xs) refl $
    let x : R.Denot = there.0 in let p : ℕ = m * s + inner.ref_ptr.1 in
    use3 𝓛 (later (some (λ (δ' : GName). ‵ (fobs δ' (R.coded.code x)) ⊛ ‵ (fbor κ (Body (mem R) inner.ref_ptr.0 p δ'))
    ⊛ ‵ (flft κ q) ⊛
    ‵ (follows (Array R 0) R δ δ' (set xs m)))))
    (takes_at 𝓛 (mem R) κ (length xs) inner.ref_ptr.0 inner.ref_ptr.1 q δ xs m p x x (at_mul inner.ref_ptr.1 s m)
    inside there.1) $ await ! tt $
    pick ! (λ δ'. split3 ! $ feq_i ! (List Val) (vptr inner.ref_ptr.0 p ∷ []) (vptr inner.ref_ptr.0 p ∷ [])
    refl $ fjoin3 ! $
    move ! (1 ∷ []) $ split ! $ move ! (3 ∷ 1 ∷ []) $
    use2 𝓛 (‵ (follows Sl R a.0.ghost_name δ' (λ w. at_last inner (set xs m w))))
    (follows_then 𝓛 Sl (Array R 0) R (at_last inner) (set xs m) a.0.ghost_name δ δ') $
    -- [what the reference follows; the token; the loan; the other tokens]
    let r : MutBor R.Denot = record { ref_ptr = (inner.ref_ptr.0, p); ghost_name = δ'; now = x } in
    returns ! (look_at ! 0 refl) $ free_all ! refl $ keep ! (2 ∷ 1 ∷ 0 ∷ 3 ∷ []) $
    suffices ! _ (ends_at 𝓛 E hs c y (vptr inner.ref_ptr.0 p) r (tt, (tt, tt)) (tt, (tt, tt))) $
    nothing ! $ nothing ! $ fjoin ! $ nothing ! $ fjoin ! $ join ! $ move ! (1 ∷ 3 ∷ []) $ join ! $ join ! $ frame ! $
    says ! (sym there.1) $ done !)))))))
