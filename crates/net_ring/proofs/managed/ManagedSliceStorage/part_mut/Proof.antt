-- `part_mut` at a `ManagedSlice` lends a run of what it holds: a call at the field of each variant.
use Rattle.net_ring.proofs.Walks.{◌≡◌, refl, sym, ℕ, List, [], ◌∷◌, length, named, erased, a_type, inst_fn, Val, vptr}
use Rattle.net_ring.proofs.Walks.{ent, GName, ftrue, flft, WpFn, tables, ‵, ◌⊛◌, raw, ◌$◌, ◌∵◌, !, qed, move, keep}
use Rattle.net_ring.proofs.Walks.{split, split3, join, fsplit, fsplit3, fjoin, use2, suffices, frame, done, whole, stop}
use Rattle.net_ring.proofs.Walks.{fld, addr, of_opd, load, no_more, and_then, returns, enter, alloc_all, pass_all}
use Rattle.net_ring.proofs.Walks.{free_all, look_at, get, through, sets, no, Array, shows, param, layouts, RattleType}
use Rattle.net_ring.proofs.Walks.{owns, MutBor, MutRef, at_last, mut_vals, mut_Tells, plain, MutSlice, nothing, peeks}
use Rattle.net_ring.proofs.Walks.{triple_of, says, Stays, stay_dropped, walk_of, ends_at, Goes-spent_ref, ap, ◌-◌}
use Rattle.net_ring.proofs.Walks.{suc-ne-zero, take, Lifetime, w64, vint, id⊢, at_ret, vrt, look_tag, by_variants}
use Rattle.net_ring.proofs.Walks.{first, exec, lands_last, env, usize, yes, uint_vals, uint_Tells, only, calls_at_last}
use Rattle.net_ring.proofs.Walks.{lasts, framed, Goes-dropped, after, proved, drop_list, field_at, opens_field}
use Rattle.net_ring.proofs.Walks.{lends_field, comes_back, slice_typed, Whole, Slice, Buffer, lent, owned}
use Rattle.std.specs.Vec.{with_items_from}
use Rattle.net_ring.specs.{overwrite}
use Rattle.net_ring.specs.declared.managed.ManagedSlice.TheVariants.{Borrowed, Owned}
use Rattle.net_ring.specs.contracts.managed.RefMutSliceStorage.part_mut as S
use Rattle.net_ring.proofs.managed.RefMutSliceStorage.part_mut.Met as lent_met
use Rattle.net_ring.specs.contracts.managed.VecStorage.part_mut as V
use Rattle.net_ring.proofs.managed.VecStorage.part_mut.Met as owned_met
use Rattle.net_ring.specs.contracts.managed.ManagedSliceStorage.part_mut as f
use Rattle.net_ring.proofs.managed.ManagedSliceStorage.part_mut.Statement.{statement}
use Rattle.net_ring.proofs.managed.ManagedSliceStorage.part_mut.Code as code

pub part_mut_spec : {M : Type 1} → statement M
part_mut_spec 𝓤 𝓛 𝓜 𝓡 wired X L =
    let 𝓣 = tables 𝓤 𝓛.H 𝓜 𝓡 𝓡.env in let R : RattleType = param 0 X in
    let args = layouts (a_type ∷ []) (X, tt) in let fn = inst_fn args code.function in
    let E = f.ended X in let c = f.clauses X 𝓛 𝓜.mem 𝓡.returns in
    let hs : Stays E.signature.params E.kept = (stay_dropped _ no, (stay_dropped _ yes, (stay_dropped _ yes, tt))) in
    let W = walk_of 𝓛 E hs c in let goes = Goes-dropped 𝓛 3 (plain (λ _. usize)) yes (λ κs x w. refl) in
    let Lent = triple_of 𝓛 (S.signature X) (S.spec X 𝓛 𝓜.mem 𝓡.returns) in
    let Owns = triple_of 𝓛 (V.signature X) (V.spec X 𝓛 𝓜.mem 𝓡.returns) in
    proved 𝓛 E hs c 𝓜 𝓡 (Goes-spent_ref 𝓛 3 (0 ∷ []) tt (plain (Whole X)), (goes, (goes, tt))) (f.Key.name args) fn
    (code.unfolded 𝓤 𝓛.H 𝓜 𝓡 wired (X, tt))
    (λ κs. (mut_vals, (uint_vals w64, (uint_vals w64, tt))))
    (λ κs. (mut_Tells (named 0) κs.0 (Whole X κs), (uint_Tells w64, (uint_Tells w64, tt)))) (λ κs qs bounds a g are.
    let κ = κs.0 in let q = qs.0 in let b = a.0.ref_ptr.0 in let o = a.0.ref_ptr.1 in let γ = a.0.ghost_name in
    let m = a.1.0 in let e = a.1.1.0 in let G = Whole X κs in
    let tokens = ‵ (flft κ q) ⊛ ‵ (flft κs.1.0 qs.1.0) ⊛ ‵ (flft κs.1.1.0 qs.1.1.0) ⊛ ‵ ftrue in
    let vss : List Val × (List Val × (List Val × Unit {0})) =
    (mut_vals a.0, (vint w64 m ∷ [], (vint w64 e ∷ [], tt))) in
    let At : G.Denot → W.Ghost = λ h. ((κs, qs, bounds, (record a.0 { now = h }, a.1), vss), g) in
    let Goes : G.Denot → Type 1 = λ h. ent 𝓤 (W.pre (At h))
    (WpFn 𝓤 𝓛.H 𝓣.C 𝓣.Λ fn (vptr b o ∷ vint w64 m ∷ vint w64 e ∷ []) (W.post (At h))) in
    elim a.0.now as (λ h. Goes h) [
      | Borrowed s ↦
          let p : ℕ = field_at (lent X κs) o in
          let at : GName → MutBor _ = λ δ. record { ref_ptr = (b, p); ghost_name = δ; now = s } in
          qed 𝓛 ((tokens ⊛ ‵ (owns (MutRef (named 0) κ G ∷ usize ∷ usize ∷ []) (At (Borrowed s)).0.3 vss)) ∷
          raw ((c κs (At (Borrowed s)).0.3).requires g) ∷ []) ∵
          split ! $ split ! $ move ! (2 ∷ []) $ fsplit ! $ fsplit3 ! $ keep ! (1 ∷ 2 ∷ 4 ∷ 3 ∷ 5 ∷ 6 ∷ []) $
          enter ! _ _ _ _ _ $
          alloc_all ! (λ l. pass_all ! refl (
            (tt, tt),
            ((tt, record { fits = are.1.0.1 }), ((tt, record { fits = are.1.1.0.1 }), tt)),
          ) $
          opens_field (lent X κs) 𝓛 b o κ q γ s ! tt (λ v.
          first ! $ by_variants ! 0 (whole !)
          (load ! (through ! refl (vrt ! refl (fld ! refl (stop !)))) (look_tag ! 0 (whole !))) tt (
            (λ _. sets ! (addr ! (through ! refl (vrt ! refl (fld ! refl (stop !))))) refl (tt, tt) $
                sets ! (addr ! (through ! refl (stop !))) refl (tt, tt) $
                lends_field (lent X κs) 𝓛 b o κ q γ s ! tt v (λ δ.
                let z : Lent.Ghost = (
                  (
                    κs,
                    qs,
                    (bounds.0, (bounds.1.1.0, (bounds.1.0, tt))),
                    (at δ, a.1),
                    (vptr b p ∷ [], vss.1),
                  ),
                  tt,
                ) in
                -- [the field's loan; its token; the enum follows; the indices; the other tokens; what is asked]
                move ! (0 ∷ 3 ∷ []) $ fjoin ! $ move ! (1 ∷ 3 ∷ []) $ join ! $ join ! $ move ! (0 ∷ 2 ∷ []) $
                use2 𝓛 (raw (Lent.pre z)) (id⊢ 𝓤 _) $
                calls_at_last ! (framed 𝓤 𝓛.H 𝓜 𝓣) Lent
                (lent_met.met 𝓤 𝓛 𝓜 𝓡 (code.calls-net_ring::managed::RefMutSliceStorage::part_mut 𝓡.env wired) X L) z
                (and_then ! (get ! refl) (and_then ! (get ! refl) (and_then ! (get ! refl) (no_more !)))) (λ u.
                comes_back ! tt G (Slice X κs) (Array R 0) Borrowed (λ w. at_last s (overwrite s.now m w))
                (λ r. (MutSlice (named 0) κ R).own_val r (u ∷ [])) tokens (lasts (S.ended X) z.0.0 z.0.3)
                (λ r. r.now ≡ take (e - m) (drop_list m s.now)) (id⊢ 𝓤 _) (λ r value.
                -- [the result; the enum follows it; the tokens]
                peeks ! (MutSlice (named 0) κ R) _ (shows 𝓛 (MutSlice (named 0) κ R)) r (u ∷ []) (λ ok.
                let stored = λ (ℓ : Lifetime). slice_typed ℓ r.ref_ptr (length r.now) u (ap only ok.0.0) ok.0.1.0 in
                lands_last ! refl (stored erased) $
                exec ! 𝓣.C 𝓣.Λ (env fn.locals l) (after 1 fn.body) (at_ret _ (W.post (At (Borrowed s)))) $
                sets ! (of_opd ! (get ! refl)) refl (stored (named 0)) $ returns ! (look_at ! 0 refl) $
                free_all ! refl $ keep ! (0 ∷ 1 ∷ 2 ∷ []) $
                suffices ! _ (ends_at 𝓛 E hs c (At (Borrowed s)) u r (tt, (tt, (tt, tt))) (tt, (tt, (tt, tt)))) $
                nothing ! $ nothing ! $ fjoin ! $ nothing ! $ fjoin ! $ nothing ! $ fjoin ! $ join ! $
                move ! (2 ∷ 0 ∷ []) $ join ! $ frame ! $
                says ! value $ done !))))),
            ((λ t. absurd (suc-ne-zero 0 (sym t))), tt),
          )))
      | Owned y ↦
          let p : ℕ = field_at (owned X κs) o in
          let at : GName → MutBor _ = λ δ. record { ref_ptr = (b, p); ghost_name = δ; now = y } in
          qed 𝓛 ((tokens ⊛ ‵ (owns (MutRef (named 0) κ G ∷ usize ∷ usize ∷ []) (At (Owned y)).0.3 vss)) ∷
          raw ((c κs (At (Owned y)).0.3).requires g) ∷ []) ∵
          split ! $ split3 ! $ move ! (3 ∷ []) $ fsplit ! $ fsplit3 ! $ keep ! (1 ∷ 2 ∷ 4 ∷ 3 ∷ 6 ∷ 7 ∷ 5 ∷ []) $
          enter ! _ _ _ _ _ $
          alloc_all ! (λ l. pass_all ! refl (
            (tt, tt),
            ((tt, record { fits = are.1.0.1 }), ((tt, record { fits = are.1.1.0.1 }), tt)),
          ) $
          opens_field (owned X κs) 𝓛 b o κ q γ y ! tt (λ v.
          first ! $ by_variants ! 0 (whole !)
          (load ! (through ! refl (vrt ! refl (fld ! refl (stop !)))) (look_tag ! 0 (whole !))) tt (
            (λ t. absurd (suc-ne-zero 0 t)),
            (
              (λ _. sets ! (addr ! (through ! refl (vrt ! refl (fld ! refl (stop !))))) refl (tt, tt) $
                  sets ! (addr ! (through ! refl (stop !))) refl (tt, tt) $
                  lends_field (owned X κs) 𝓛 b o κ q γ y ! tt v (λ δ.
                  let z : Owns.Ghost = (
                    (
                      (κ, (κs.1.1.0, tt)),
                      (q, (qs.1.1.0, tt)),
                      (bounds.1.0, tt),
                      (at δ, a.1),
                      (vptr b p ∷ [], vss.1),
                    ),
                    tt,
                  ) in
                  -- [the field's loan; its token; the enum follows; the indices; the token of T; what is asked; the token of 'a]
                  move ! (0 ∷ 3 ∷ []) $ fjoin ! $ move ! (1 ∷ 3 ∷ []) $ join ! $ join ! $ move ! (0 ∷ 2 ∷ []) $
                  use2 𝓛 (raw (Owns.pre z)) (id⊢ 𝓤 _) $
                  calls_at_last ! (framed 𝓤 𝓛.H 𝓜 𝓣) Owns
                  (owned_met.met 𝓤 𝓛 𝓜 𝓡 (code.calls-net_ring::managed::VecStorage::part_mut 𝓡.env wired) X L) z
                  (and_then ! (get ! refl) (and_then ! (get ! refl) (and_then ! (get ! refl) (no_more !)))) (λ u.
                  comes_back ! tt G (Buffer X κs) (Array R 0) Owned (with_items_from y m)
                  (λ r. (MutSlice (named 0) κ R).own_val r (u ∷ []))
                  (‵ (flft κ q) ⊛ ‵ (flft κs.1.1.0 qs.1.1.0) ⊛ ‵ ftrue) (lasts (V.ended X) z.0.0 z.0.3)
                  (λ r. r.now ≡ take (e - m) (drop_list m y.items)) (id⊢ 𝓤 _) (λ r value.
                  -- [the result; the enum follows it; the tokens; the token of 'a]
                  peeks ! (MutSlice (named 0) κ R) _ (shows 𝓛 (MutSlice (named 0) κ R)) r (u ∷ []) (λ ok.
                  let stored = λ (ℓ : Lifetime). slice_typed ℓ r.ref_ptr (length r.now) u (ap only ok.0.0) ok.0.1.0 in
                  lands_last ! refl (stored erased) $
                  exec ! 𝓣.C 𝓣.Λ (env fn.locals l) (after 1 fn.body) (at_ret _ (W.post (At (Owned y)))) $
                  sets ! (of_opd ! (get ! refl)) refl (stored (named 0)) $ returns ! (look_at ! 0 refl) $
                  free_all ! refl $ keep ! (0 ∷ 1 ∷ 2 ∷ 3 ∷ []) $
                  suffices ! _ (ends_at 𝓛 E hs c (At (Owned y)) u r (tt, (tt, (tt, tt))) (tt, (tt, (tt, tt)))) $
                  nothing ! $ nothing ! $ fjoin ! $ nothing ! $ fjoin ! $ nothing ! $ fjoin ! $ join ! $
                  move ! (2 ∷ []) $ split ! $ move ! (4 ∷ 1 ∷ []) $
                  join ! $ move ! (1 ∷ 0 ∷ []) $ join ! $ join ! $ frame ! $ says ! value $ done !))))),
              tt,
            ),
          )))
    ])
