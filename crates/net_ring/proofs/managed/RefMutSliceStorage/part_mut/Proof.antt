-- `part_mut` at a `&mut [T]` lends a run of what the reference points at, for every T.
use Rattle.net_ring.proofs.Walks.{◌≡◌, refl, sym, ℕ, List, [], ◌∷◌, ◌++◌, length, named, a_type, inst_fn, Val}
use Rattle.net_ring.proofs.Walks.{full_share, ftrue, fat, flft, ◌⊑◌, ‵, ◌⊛◌, given, ◌$◌, ◌∵◌, !, qed, move, keep, drop}
use Rattle.net_ring.proofs.Walks.{split, join, fsplit, fsplit3, fjoin, rewrite, use1, suffices, frame, done, whole, sub}
use Rattle.net_ring.proofs.Walks.{look_in, agg, stop, fld, hop, addr, of_opd, load, no_more, and_then, returns, enter}
use Rattle.net_ring.proofs.Walks.{alloc_all, pass_all, free_all, look_at, get, through, sets, no, shows, param, layouts}
use Rattle.net_ring.proofs.Walks.{RattleType, owns, MutBor, MutRef, mut_vals, mut_Tells, cell_at, plain, mut_slice_of}
use Rattle.net_ring.proofs.Walks.{MutSlice, Room, slice_val, nothing, opens, closes, peeks, says, Stays, stay_dropped}
use Rattle.net_ring.proofs.Walks.{walk_of, ends_at, Goes-spent_ref, subst, ap, ◌+◌, ◌-◌, ◌^◌, ◌<◌, ◌≤◌, take, w64, vint}
use Rattle.net_ring.proofs.Walks.{learn, usize, yes, uint_vals, uint_Tells, Goes-dropped, ◌∙◌, ◌*◌, arith}
use Rattle.net_ring.proofs.Walks.{take-append-drop, length-drop, size, bin, size_word, get_in, is, layout, at_mul}
use Rattle.net_ring.proofs.Walks.{length-take-le, uncapped, proved, drop_list, bare, words_ty, run_fits, lends_run}
use Rattle.net_ring.specs.contracts.managed.RefMutSliceStorage.part_mut as f
use Rattle.net_ring.proofs.managed.RefMutSliceStorage.part_mut.Statement.{statement}
use Rattle.net_ring.proofs.managed.RefMutSliceStorage.part_mut.Code as code

pub part_mut_spec : {M : Type 1} → statement M
part_mut_spec 𝓤 𝓛 𝓜 𝓡 wired X L =
    let R : RattleType = param 0 X in let args = layouts (a_type ∷ []) (X, tt) in let fn = inst_fn args code.function in
    let E = f.ended X in let c = f.clauses X 𝓛 𝓜.mem 𝓡.returns in let s : ℕ = size (layout X) in
    let hs : Stays E.signature.params E.kept = (stay_dropped _ no, (stay_dropped _ yes, (stay_dropped _ yes, tt))) in
    let goes = Goes-dropped 𝓛 3 (plain (λ _. usize)) yes (λ κs x w. refl) in
    proved 𝓛 E hs c 𝓜 𝓡 (
      Goes-spent_ref 𝓛 3 (0 ∷ []) tt (mut_slice_of (1 ∷ []) tt (plain (λ _. R))),
      (goes, (goes, tt)),
    ) (f.Key.name args) fn
    (code.unfolded 𝓤 𝓛.H 𝓜 𝓡 wired (X, tt)) (λ κs. (mut_vals, (uint_vals w64, (uint_vals w64, tt))))
    (λ κs. (mut_Tells (named 0) κs.0 (MutSlice (named 1) κs.1.0 R), (uint_Tells w64, (uint_Tells w64, tt))))
    (λ κs qs bounds a g are.
    let κ = κs.0 in let q = qs.0 in let b = a.0.ref_ptr.0 in let o = a.0.ref_ptr.1 in let m : ℕ = a.1.0 in
    let e : ℕ = a.1.1.0 in
    let vss : List Val × (List Val × (List Val × Unit {0})) =
    (mut_vals a.0, (vint w64 m ∷ [], (vint w64 e ∷ [], tt))) in
    let inner : MutBor (List R.Denot) = a.0.now in let xs : List R.Denot = inner.now in
    let v : Val = slice_val inner.ref_ptr (length xs) in
    let Sl : RattleType = MutSlice (named 1) κs.1.0 R in let Cell =
    λ (us : List Val). ‵ (cell_at full_share Sl.mir us b o) in
    let y : (walk_of 𝓛 E hs c).Ghost = ((κs, qs, bounds, a, vss), g) in
    qed 𝓛 (((‵ (flft κ q) ⊛ ‵ (flft κs.1.0 qs.1.0) ⊛ ‵ (flft κs.1.1.0 qs.1.1.0) ⊛ ‵ ftrue) ⊛
    ‵ (owns (MutRef (named 0) κ Sl ∷ usize ∷ usize ∷ []) a vss)) ∷
    (given (κs.1.1.0 ⊑ X.lives) (‵ ftrue) ⊛ given ((m ≤ e) × (e ≤ length xs)) (‵ ftrue)) ∷ []) ∵
    move ! (1 ∷ []) $ split ! $ drop ! $ learn ! (λ le. drop ! $
    split ! $ split ! $ move ! (2 ∷ []) $ fsplit ! $ fsplit3 ! $ keep ! (1 ∷ 2 ∷ 4 ∷ 5 ∷ []) $
    enter ! _ _ _ _ _ $ alloc_all !
    (λ l. pass_all ! refl (
      (tt, tt),
      ((tt, record { fits = are.1.0.1 }), ((tt, record { fits = are.1.1.0.1 }), tt)),
    ) $
    opens ! tt Sl b o (λ us. move ! (1 ∷ []) $ peeks ! Sl _ (shows 𝓛 Sl) inner us (λ ok.
    let fit = run_fits m e (length xs) s le ok.0.1 in let rest : List R.Denot = drop_list m xs in
    let mid : List R.Denot = take (e - m) rest in
    let lf : length (take m xs) ≡ m = length-take-le m xs (omega arith) in
    let long : length mid ≡ e - m = length-take-le (e - m) rest (omega (arith, length-drop m xs)) in
    rewrite ! 1 Cell ok.0.0 refl $ move ! (1 ∷ []) $
    use1 𝓛 (‵ (fat full_share words_ty b o v)) (𝓛.laws.raw_at full_share words_ty b o v) $
    -- [the slice's words; ..]
    sets ! (of_opd ! (load ! (through ! refl (fld ! refl (stop !))) (look_in ! 0 (sub ! 1 refl (whole !))))) refl (
      tt,
      record { fits = ok.0.1.0 },
    ) $
    sets ! (addr ! (through ! refl (fld ! refl (hop ! (look_in ! 0 (sub ! 0 refl (whole !))) (stop !))))) refl (
      tt,
      tt,
    ) $
    use1 𝓛 (‵ (fat full_share (bare words_ty) b o v)) (𝓛.laws.at_raw full_share words_ty b o v) $
    rewrite ! 0 Cell (sym ok.0.0) refl $ closes ! tt Sl inner us b o $
    sets ! (agg ! (and_then ! (get ! refl) (and_then ! (get ! refl) (no_more !)))) refl (
      tt,
      (tt, (record { fits = ok.0.1.0 }, tt)),
    ) $
    sets ! (is ! (bin ! (get ! refl) (size_word !)
    (record { fits = subst (λ (k : ℕ). k < 2 ^ 64) (sym (uncapped m s fit.0)) fit.0 }))
    (ap (vint w64) (uncapped m s fit.0))) refl (tt, record { fits = fit.0 }) $
    sets ! (bin ! (get_in ! (fld ! refl (stop !)) (sub ! 0 refl (whole !))) (get ! refl) tt) refl (tt, tt) $
    sets ! (bin ! (get ! refl) (get ! refl) le.0) refl (tt, record { fits = fit.1 }) $
    sets ! (addr ! (through ! refl (stop !))) refl (tt, tt) $
    sets ! (agg ! (and_then ! (get ! refl) (and_then ! (get ! refl) (no_more !)))) refl (
      tt,
      (tt, (record { fits = fit.1 }, tt)),
    ) $
    lends_run ! tt R κs.1.0 bounds.0 a.0 ok.0.1 m (take m xs) mid (drop_list (e - m) rest)
    (sym (ap (λ (l : List R.Denot). take m xs ++ l) (take-append-drop (e - m) rest) ∙ take-append-drop m xs)) lf
    (m * s + inner.ref_ptr.1)
    (at_mul inner.ref_ptr.1 s (length (take m xs)) ∙ ap (λ (k : ℕ). k * s + inner.ref_ptr.1) lf)
    (subst (Room R) (sym long) (fit.1, fit.2)) (λ δ.
    -- [the loan; its token; what the reference follows; the other tokens]
    let r : MutBor (List R.Denot) =
    record { ref_ptr = (inner.ref_ptr.0, m * s + inner.ref_ptr.1); ghost_name = δ; now = mid } in
    rewrite ! 0 (λ (k : ℕ). ‵ ((MutSlice (named 0) κ R).own_val r (slice_val r.ref_ptr k ∷ []))) long refl $
    returns ! (look_at ! 0 refl) $ free_all ! refl $ keep ! (0 ∷ 1 ∷ 2 ∷ 3 ∷ []) $
    suffices ! _ (ends_at 𝓛 E hs c y (slice_val r.ref_ptr (e - m)) r (tt, (tt, (tt, tt))) (tt, (tt, (tt, tt)))) $
    nothing ! $ nothing ! $ fjoin ! $ nothing ! $ fjoin ! $ nothing ! $ fjoin ! $ join ! $ move ! (1 ∷ 3 ∷ []) $
    join ! $ join ! $ frame ! $
    says ! refl $ done !))))))
