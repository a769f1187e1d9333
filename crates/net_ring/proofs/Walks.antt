-- What the walks of storage cite, and steps of these walks.
-- A run of what a `&mut [T]` points at is lent on, and the whole follows it.
--     words_ty      the type of the cell of a `&mut [T]`: its address and its length
-- run_fits the numbers of a run from m to e, of n elements of s bytes. element_at the element at an index
--     lends_part      a part of a slice is lent.        lends_run      the same of the slice that a `&mut` points at
-- A variant of an enum, which has one field, is opened behind a `&mut`, and that field is lent.
-- Variant R F a variant of the enum of R, whose one field has the row F. field_at V o where the field is, in an enum at
-- o
--     opens_field, lends_field      the enum is opened, which gives the field's value, and the field is lent
--     comes_back      a call that was lent the field returned a loan of it, which the enum follows
-- The two variants of a `ManagedSlice`, for the walks of its methods that lend.
--     lent X κs, owned X κs      elements of X that are lent, or owned, where κs are the lifetimes of the method
--     slice_typed, ref_typed      the machine value of a loan is of its type
pub use mathlib.Core.Path.{◌≡◌, refl, sym, subst, ap, ◌∙◌}
pub use Prim.Native.Nat.{ℕ, ◌+◌, ◌-◌, ◌^◌, ◌<◌, ◌≤◌, ◌*◌}
use Prim.Native.Nat.{zero, suc}
pub use mathlib.Core.List.{List, [], ◌∷◌, ◌++◌, append-nil}
pub use lib.ListN.{length, take, get_or, take-append-drop, length-drop, set, drop as drop_list}
pub use mir.Syntax.{named, erased, a_type, Lifetime, w64}
use mir.Syntax.{Ty, mut, ty_ref, ty_param, Tyss, Sym, ty_enum, tcons, tnil, ttcons, ttnil}
pub use mir.MapTy.{inst_fn}
pub use mir.Val.{Val, vptr, vint}
use mir.Val.{vcons, vnil, of_list, has_ty, has_tys, WT}
pub use base.Logic.{ent, id⊢}
use base.Logic.{SProp, sep, ex, wand, all, all_e, apply∗}
pub use base.Fraction.{full_share}
pub use base.Fml.{GName, ftrue, fat, flft, fobs, fbor}
use base.Fml.{Lft, Incl, Share, Fml, fsep, fex, feq, fobor, fauth}
pub use prog.Wp.{WpFn}
pub use contract.BorrowLft.{◌⊑◌}
pub use contract.Running.{tables}
pub use types.Kit.{‵, ◌⊛◌, raw, given, some, later, ◌$◌, ◌∵◌, !, qed, move, keep, drop, split, split3, join, fsplit}
pub use types.Kit.{fsplit3, fjoin, rewrite, use1, use2, use3, await, pick, suffices, frame, done, at_ret, learn, fjoin3}
pub use types.Kit.{feq_i}
use types.Kit.{Goal, Soaks, Item, Seq, updating, group, now, show, feq_l, mean, by, fpick, fpack}
pub use types.Part.{whole, sub, look_in, agg}
pub use types.Run.{stop, fld, hop, addr, of_opd, load, no_more, and_then, returns, enter, first, exec, bin, size_word}
pub use types.ByLocal.{alloc_all, pass_all, free_all, look_at, get, through, sets, lands_last, env, get_in, is}
pub use denote.Exit.{no, yes}
pub use denote.Follow.{follows, follows_then}
use denote.Follow.{lends_Part}
pub use denote.Through.{lends_inner_slice, renamed}
pub use denote.Array.{Array}
pub use denote.Laws.{shows}
pub use denote.Param.{param, layouts, layout}
pub use denote.RattleType.{RattleType, owns}
use denote.RattleType.{Valss}
pub use denote.Ref.{MutBor, MutRef, at_last, mut_vals, mut_Tells}
pub use denote.Memory.{cell_at, mem}
use denote.Memory.{lone, part_at}
pub use denote.Signature.{plain, mut_slice_of}
use denote.Signature.{named_lft}
pub use denote.Slice.{MutSlice, Room, slice_val, mut_slice_vals}
use denote.Slice.{slice_ty}
pub use denote.Steps.{nothing, opens, closes, peeks, only}
use denote.Steps.{heard}
pub use denote.Triple.Spec.{triple_of}
pub use denote.Triple.Walked.{says, Stays, stay_dropped, walk_of, ends_at, Goes-spent_ref, Goes-dropped}
pub use native.Mathlib.Nat.{suc-ne-zero}
use native.Mathlib.Nat.{mul-le-mul_right}
pub use types.Match.{vrt, look_tag, by_variants}
use types.Match.{live}
pub use denote.Builtin.{usize}
pub use denote.Plain.{uint_vals, uint_Tells}
pub use denote.Triple.Call.{calls_at_last}
pub use denote.Triple.Clauses.{lasts}
pub use denote.Triple.Table.{framed}
pub use Rattle.std.proofs.VecSteps.Shapes.{after}
pub use native.Mathlib.Omega.{arith}
pub use prog.Memory.{size}
use prog.Memory.{variant_at, up, align}
pub use borrow.Table.Elements.{at_mul, length-take-le}
use borrow.Table.Elements.{at as at_index, cut_app, join_app}
pub use Rattle.std.proofs.slice.Relends.{uncapped}
use Rattle.std.proofs.slice.Relends.{slice_lent, SliceLent}
pub use base.Stored.{coded_list}
use base.Stored.{Gv}
pub use types.SemTy.{Body}
use types.SemTy.{cells, Arr}
pub use denote.FollowSlice.{heres_id}
use denote.FollowSlice.{slice_of}
pub use Rattle.std.proofs.raw_atomic.Walks.{proved}
pub use borrow.Rule.Slice.Handed.{takes_at}
pub use mir.Raw.{raw as bare}
use seplogic.Ra.Ura.{Ura}
use types.Logic.{Logic, sem}
use types.Follow.{takes_part}
use types.Mut.{open_ref}
use Rattle.net_ring.specs.{overwrite}
use Rattle.net_ring.proofs.Rotations.{length-overwrite, overwrite_at}
use mathlib.Core.Option.{some as just}
use lib.Dec.{T}
use mir.Facts.{and_yes}
use contract.Monad.{fact}
use denote.Enum.Enum.{in_a_row}
use borrow.Table.OneValue.{part_in_at, part_out_at}
use contract.Lifetimes.{Lfts}
use Rattle.net_ring.specs.declared.managed.ManagedSlice.TheVariants.{Borrowed, Owned}
use Rattle.std.specs.contracts.alloc.Global
use Rattle.std.specs.contracts.impls.GlobalAllocator.TheImpl
use Rattle.std.specs.contracts.vec.Vec
use Rattle.net_ring.specs.contracts.managed.ManagedSlice as C

abbrev pub words_ty : Ty
words_ty = slice_ty (ty_ref erased mut (ty_param 0))

pub run_fits : (m e n s : ℕ) → (m ≤ e) × (e ≤ n) → (n < 2 ^ 64) × (n * s < 2 ^ 63) → (m * s < 2 ^ 64)
    × (e - m < 2 ^ 64) × ((e - m) * s < 2 ^ 63)
run_fits m e n s le fit =
    let below : m * s ≤ n * s = mul-le-mul_right s (omega arith) in
    let within : (e - m) * s ≤ n * s = mul-le-mul_right s (omega arith) in (omega arith, omega arith, omega arith)

pub element_at : {X : Type 0} (xs : List X) (m : ℕ) → m < length xs → (x : X) × (get_or xs m x ≡ x)
element_at [] m h = absurd (omega arith)
element_at (x ∷ xs) zero h = (x, refl)
element_at (y ∷ xs) (suc m) h = element_at xs m (omega arith)

module _ {M : Type 1} {𝓤 : Ura M} (𝓛 : Logic 𝓤) (ℓ : Lifetime) (κ : Lft) (q : Share) (b o : ℕ) (γ : GName) where
  open 𝓛 use {H, A}

  module _ (R : RattleType) (m : ℕ) (xs prefix mid back : List R.Denot) (cut : xs ≡ prefix ++ (mid ++ back))
      (lf : length prefix ≡ m) (p : ℕ)
      (on : at_index o (mem R).size (length prefix) ≡ p) (rm : Room R (length mid)) where
    abbrev Others : SProp 𝓤
    Others = sep 𝓤 (sem 𝓛 (cells (mem R) prefix b o))
        (sem 𝓛 (cells (mem R) back b (at_index p (mem R).size (length mid))))

    put : (ws : List R.Denot) → ent 𝓤 (sep 𝓤 (sem 𝓛 ((Arr (mem R) (length mid)).own_at ws b p)) Others)
        (sem 𝓛 ((Arr (mem R) (length xs)).own_at (overwrite xs m ws) b o))
    put ws = qed 𝓛 (‵ ((Arr (mem R) (length mid)).own_at ws b p) ∷ ‵ (cells (mem R) prefix b o) ∷
        ‵ (cells (mem R) back b (at_index p (mem R).size (length mid))) ∷ []) ∵
        fsplit ! $ feq_l ! (λ e.
        let is : overwrite xs m ws ≡ prefix ++ (ws ++ back) = ap (λ (l : List R.Denot). overwrite l m ws) cut
        ∙ overwrite_at prefix mid back ws m lf (sym e) in
        rewrite ! 2 (λ (k : ℕ). ‵ (cells (mem R) back b (at_index p (mem R).size k))) (sym e) refl $
        move ! (0 ∷ 2 ∷ []) $
        use2 𝓛 (‵ (cells (mem R) (ws ++ back) b p)) (join_app 𝓛 (mem R) ws back b p) $
        rewrite ! 0 (λ (k : ℕ). ‵ (cells (mem R) (ws ++ back) b k)) (sym on) refl $ move ! (1 ∷ 0 ∷ []) $
        use2 𝓛 (‵ (cells (mem R) (prefix ++ (ws ++ back)) b o)) (join_app 𝓛 (mem R) prefix (ws ++ back) b o) $
        rewrite ! 0 (λ (l : List R.Denot). ‵ (cells (mem R) l b o)) (sym is) refl $
        feq_i ! ℕ (length (overwrite xs m ws)) (length xs) (length-overwrite xs m ws) $ fjoin ! $ done !)

    pub lends_part : (vs : List Val)
        → ent 𝓤 (sep 𝓤 (sem 𝓛 ((MutSlice ℓ κ R).own_val (record { ref_ptr = (b, o); ghost_name = γ; now = xs }) vs))
        (A.lft κ q))
        (H.⇛ (ex 𝓤 (SliceLent 𝓛 ℓ κ q b p γ (Array R 0) R (overwrite xs m) mid)))
    lends_part vs = qed 𝓛 (‵ ((MutSlice ℓ κ R).own_val (record { ref_ptr = (b, o); ghost_name = γ; now = xs }) vs) ∷ ‵
        (flft κ q) ∷ []) ∵ updating ! $
        fsplit3 ! $ drop ! $
        rewrite ! 0 (λ (l : List R.Denot). ‵ (fobs γ ((coded_list R.coded).code l))) (heres_id R xs) refl $
        open_ref ! tt (Arr (mem R) (length xs)) {b = b} {o = o} $ fsplit ! $ drop ! $
        rewrite ! 0 (λ (l : List R.Denot). ‵ (cells (mem R) l b o)) cut refl $
        use1 𝓛 (‵ (cells (mem R) prefix b o) ⊛ ‵
        (cells (mem R) (mid ++ back) b (at_index o (mem R).size (length prefix))))
        (cut_app 𝓛 (mem R) prefix (mid ++ back) b o) $ split ! $ move ! (1 ∷ []) $
        rewrite ! 0 (λ (k : ℕ). ‵ (cells (mem R) (mid ++ back) b k)) on refl $
        use1 𝓛 (‵ (cells (mem R) mid b p) ⊛ ‵ (cells (mem R) back b (at_index p (mem R).size (length mid))))
        (cut_app 𝓛 (mem R) mid back b p) $ split ! $
        feq_i ! ℕ (length mid) (length mid) refl $ fjoin ! $ move ! (2 ∷ 1 ∷ []) $ join ! $
        move ! (2 ∷ 3 ∷ 4 ∷ 1 ∷ 0 ∷ []) $ group ! 5 $
        use1 𝓛 (later (some (λ (δ : GName). ‵ (fobs δ ((coded_list R.coded).code mid)) ⊛ ‵
        (fbor κ (Body (Arr (mem R) (length mid)) b p δ)) ⊛
        ‵ (flft κ q) ⊛ ‵ (follows (Array R 0) (Array R 0) γ δ (overwrite xs m)))))
        (takes_part 𝓛 (Arr (mem R) (length xs)) (Arr (mem R) (length mid)) (overwrite xs m) κ q b o b p γ Others put
        ((coded_list R.coded).code xs)
        ((coded_list R.coded).code xs) mid) $ await ! tt $ pick ! (λ δ. split3 ! $
        use2 𝓛 (‵ ((MutSlice ℓ κ R).own_val (record { ref_ptr = (b, p); ghost_name = δ; now = mid })
        (slice_val (b, p) (length mid) ∷ [])))
        (slice_of 𝓛 R ℓ κ b p δ mid rm) $ now ! $ show ! (SliceLent 𝓛 ℓ κ q b p γ (Array R 0) R (overwrite xs m) mid) δ
        $ done !)

module _ {M : Type 1} {𝓤 : Ura M} {𝓛 : Logic 𝓤} {K : Type 0} {Γ : List (Item 𝓤)} {G : Goal 𝓤 𝓛.H} where
  pub lends_run : K → Soaks G → (R : RattleType) {κ : Lft} {q : Share} (κ' : Lft) → Incl κ κ'
      → (x : MutBor (MutBor (List R.Denot)))
      → Room R (length x.now.now) → (m : ℕ) (prefix mid back : List R.Denot) → x.now.now ≡ prefix ++ (mid ++ back)
      → length prefix ≡ m
      → (p : ℕ) → at_index x.now.ref_ptr.1 (mem R).size (length prefix) ≡ p → Room R (length mid)
      → ((δ : GName) → Seq K 𝓛
      (‵ ((MutSlice (named 0) κ R).own_val (record { ref_ptr = (x.now.ref_ptr.0, p); ghost_name = δ; now = mid })
      (slice_val (x.now.ref_ptr.0, p) (length mid) ∷ [])) ∷ ‵ (flft κ q) ∷
      ‵ (follows (MutSlice (named 1) κ' R) (Array R 0) x.ghost_name δ (λ w. at_last x.now (overwrite x.now.now m w)))
      ∷ Γ) G)
      → Seq K 𝓛 (‵ (fobs x.ghost_name ((MutSlice (named 1) κ' R).coded.code x.now)) ∷
      ‵ (fbor κ (Body (mem (MutSlice (named 1) κ' R)) x.ref_ptr.0 x.ref_ptr.1 x.ghost_name)) ∷ ‵ (flft κ q) ∷ Γ) G
  lends_run t z R {κ} {q} κ' inc x rm m prefix mid back cut lf p on rm' next =
      let S : RattleType = MutSlice (named 1) κ' R in let xs : List R.Denot = x.now.now in let c : ℕ = x.now.ref_ptr.0
      in let d : ℕ = x.now.ref_ptr.1 in
      use3 𝓛 (later (some (λ (γ : GName). ‵ ((MutSlice (named 0) κ R).own_val (renamed x.now γ) (mut_slice_vals x.now))
      ⊛ ‵ (flft κ q) ⊛
      ‵ (follows S (Array R 0) x.ghost_name γ (at_last x.now)))))
      (lends_inner_slice 𝓛 R (named 0) (named 1) κ κ' x inc rm q) $ await t z $ pick t (λ γ. split3 t $
      use2 𝓛 (later (some (slice_lent 𝓛 (named 0) κ q c p γ (Array R 0) R (overwrite xs m) mid)))
      (lends_part 𝓛 (named 0) κ q c d γ R m xs prefix mid back cut lf p on rm' (mut_slice_vals x.now)) $ await t z $
      pick t (λ δ. split3 t $
      move t (3 ∷ 2 ∷ []) $ use2 𝓛 (‵ (follows S (Array R 0) x.ghost_name δ (λ w. at_last x.now (overwrite xs m w))))
      (follows_then 𝓛 S (Array R 0) (Array R 0) (at_last x.now) (overwrite xs m) x.ghost_name γ δ) $
      move t (1 ∷ 2 ∷ 0 ∷ []) $ next δ))

-- what a value of the variant k owns, at the field's row F
abbrev pub tagged : ℕ → (F : RattleType) → F.Denot → List Val → List Val → Fml
tagged k F y vs us = fsep (feq (List Val) vs (live k (of_list us) ∷ []))
    (fex (Valss (F ∷ [])) (in_a_row (F ∷ []) (owns (F ∷ []) (y, tt)) us))

-- a row of one value
pub one_value : (σ : Ty) (ws : List Val) → T (has_tys (tcons σ tnil) (of_list (ws ++ []))) → (v : Val) × (ws ≡ v ∷ [])
one_value σ [] t = absurd t
one_value σ (v ∷ []) t = (v, refl)
one_value σ (v ∷ u ∷ us) t = absurd (and_yes (has_ty σ v) _ t).1

-- the variant k of the enum named ν, whose variants have fields of the types τss. Its field has the type τ
pub record Variant (R F : RattleType) : Type 1 where
  pub make : F.Denot → R.Denot
  pub ν : Sym
  pub τss : Tyss
  pub k : ℕ
  pub τ : Ty
  pub there : variant_at τss k ≡ just (tcons τ tnil)
  pub one : (ws : List Val) → T (has_ty (ty_enum ν τss) (live k (of_list (ws ++ [])))) → (v : Val) × (ws ≡ v ∷ [])
  pub one_R : R.mir ≡ lone R.mir ∷ []
  pub one_F : F.mir ≡ lone F.mir ∷ []
  pub is_R : bare (ty_enum ν τss) ≡ bare (lone R.mir)
  pub is_F : bare τ ≡ bare (lone F.mir)
  pub owns_is : (y : F.Denot) (vs : List Val) → R.own_val (make y) vs ≡ fex (List Val) (tagged k F y vs)

abbrev pub field_at : {R F : RattleType} → Variant R F → ℕ → ℕ
field_at V o = o + up (align V.τ) 1

module _ {R F : RattleType} (V : Variant R F) {M : Type 1} {𝓤 : Ura M} (𝓛 : Logic 𝓤) (b o : ℕ) where
  open 𝓛 use {H, A}
  open V use {make, ν, τss, k, τ}

  abbrev ω : Ty
  ω = ty_enum ν τss

  abbrev at : ℕ
  at = field_at V o

  abbrev cell : Val → Fml
  cell v = fat full_share ω b o (live k (vcons v vnil))

  abbrev Opened : F.Denot → Val → SProp 𝓤
  Opened y v = sep 𝓤 (sem 𝓛 (cell v)) (sem 𝓛 (F.own_val y (v ∷ [])))

  opened_at : (y : F.Denot) (ws : List Val) → T (has_ty ω (live k (of_list (ws ++ []))))
      → ent 𝓤 (sep 𝓤 (H.at full_share ω b o (live k (of_list (ws ++ [])))) (sem 𝓛 (F.own_val y ws))) (ex 𝓤 (Opened y))
  opened_at y ws t =
      let is = V.one ws t in
      qed 𝓛 (‵ (fat full_share ω b o (live k (of_list (ws ++ [])))) ∷ ‵ (F.own_val y ws) ∷ []) ∵
      rewrite ! 0 (λ (l : List Val). ‵ (fat full_share ω b o (live k (of_list (l ++ []))))) is.1 refl $
      rewrite ! 1 (λ (l : List Val). ‵ (F.own_val y l)) is.1 refl $ show ! (Opened y) is.0 $ done !

  opened : (y : F.Denot) → ent 𝓤 (sem 𝓛 (part_at R full_share (make y) b o)) (ex 𝓤 (Opened y))
  opened y =
      qed 𝓛 (‵ (part_at R full_share (make y) b o) ∷ []) ∵
      use1 𝓛 (some (λ (w : Val). ‵ (fat full_share ω b o w) ⊛ ‵ (R.own_val (make y) (w ∷ []))))
      (part_out_at 𝓛 R V.one_R full_share (make y) b o ω V.is_R) $
      pick ! (λ w. split ! $
      rewrite ! 1 (λ (G : Fml). ‵ G) (V.owns_is y (w ∷ [])) refl $ move ! (1 ∷ []) $
      fpick ! (λ us. fsplit ! $ feq_l ! (λ e. fpick ! (λ vss. fsplit ! $ feq_l ! (λ f. fsplit ! $
      let u : Val = live k (of_list (vss.0 ++ [])) in
      rewrite ! 2 (λ (v : Val). ‵ (fat full_share ω b o v)) (ap only e ∙ ap (λ (vs : List Val). live k (of_list vs)) f)
      refl $ keep ! (2 ∷ 0 ∷ []) $
      use1 𝓛 (given (T (has_ty ω u) × WT u) (‵ (fat full_share ω b o u))) (𝓛.laws.at_wt full_share ω b o u) $
      learn ! (λ g. by ! (opened_at y vss.0 g.0)))))))

  abbrev Back : Val → SProp 𝓤
  Back u = wand 𝓤 (H.at full_share τ b at u) (sem 𝓛 (cell u))

  back : (w : F.Denot) → ent 𝓤 (sep 𝓤 (sem 𝓛 ((mem F).own_at w b at)) (all 𝓤 Back))
      (sem 𝓛 ((mem R).own_at (make w) b o))
  back w =
      qed 𝓛 (‵ (part_at F full_share w b at) ∷ raw (all 𝓤 Back) ∷ []) ∵
      use1 𝓛 (some (λ (v : Val). ‵ (fat full_share τ b at v) ⊛ ‵ (F.own_val w (v ∷ []))))
      (part_out_at 𝓛 F V.one_F full_share w b at τ V.is_F) $
      pick ! (λ v. split ! $
      let u : Val = live k (vcons v vnil) in
      move ! (2 ∷ []) $ use1 𝓛 (raw (Back v)) (all_e 𝓤 Back v) $ move ! (1 ∷ 0 ∷ []) $
      use2 𝓛 (‵ (cell v)) (apply∗ 𝓤 (H.at full_share τ b at v) (sem 𝓛 (cell v))) $
      nothing ! $ move ! (2 ∷ 0 ∷ []) $ fjoin ! $ feq_i ! (List Val) (v ∷ []) (v ∷ []) refl $ fjoin ! $
      fpack ! (Valss (F ∷ [])) (in_a_row (F ∷ []) (owns (F ∷ []) (w, tt)) (v ∷ [])) (v ∷ [], tt) $
      feq_i ! (List Val) (u ∷ []) (u ∷ []) refl $ fjoin ! $ fpack ! (List Val) (tagged k F w (u ∷ [])) (v ∷ []) $
      rewrite ! 0 (λ (G : Fml). ‵ G) (sym (V.owns_is w (u ∷ []))) refl $ move ! (1 ∷ 0 ∷ []) $
      by ! (part_in_at 𝓛 R V.one_R full_share (make w) b o ω V.is_R u))

  module _ {K : Type 0} {Γ : List (Item 𝓤)} {G : Goal 𝓤 H} (κ : Lft) (q : Share) (γ : GName) (y : F.Denot) where
    pub opens_field : K → Soaks G
        → ((v : Val) → Seq K 𝓛 (‵ (cell v) ∷ ‵ (F.own_val y (v ∷ [])) ∷ ‵ (fobor κ q (Body (mem R) b o γ)) ∷
        ‵ (fobs γ (R.coded.code (make y))) ∷ ‵ (fauth γ (R.coded.code (make y))) ∷ Γ) G)
        → Seq K 𝓛 (‵ (fobs γ (R.coded.code (make y))) ∷ ‵ (fbor κ (Body (mem R) b o γ)) ∷ ‵ (flft κ q) ∷ Γ) G
    opens_field t z next =
        -- the enum is taken out of its loan, and its cell and what its field owns are apart
        open_ref t z (mem R) {b = b} {o = o} $ use1 𝓛 (some (λ (v : Val). ‵ (cell v) ⊛ ‵ (F.own_val y (v ∷ []))))
        (opened y) $
        pick t (λ v. split t $ next v)

    pub lends_field : K → Soaks G → (v : Val) {g : Gv} → ((δ : GName) →
        Seq K 𝓛 (‵ ((MutRef (named 0) κ F).own_val (record { ref_ptr = (b, at); ghost_name = δ; now = y })
        (vptr b at ∷ [])) ∷ ‵ (flft κ q) ∷
        ‵ (follows R F γ δ make) ∷ Γ) G)
        → Seq K 𝓛 (‵ (cell v) ∷ ‵ (F.own_val y (v ∷ [])) ∷ ‵ (fobor κ q (Body (mem R) b o γ)) ∷ ‵ (fobs γ g) ∷ ‵
        (fauth γ g) ∷ Γ) G
    lends_field t z v {g} next =
        -- the field is taken out of the cell, with what makes a cell of it again
        use1 𝓛 (‵ (fat full_share τ b at v) ⊛ raw (all 𝓤 Back))
        (𝓛.laws.at_variant full_share ν τss k (tcons τ tnil) V.there 0 τ (up (align τ) 1) refl b o (vcons v vnil)) $
        split t $
        -- its cell and what it owns are its value y
        move t (0 ∷ 2 ∷ []) $ use2 𝓛 (‵ (part_at F full_share y b at)) (part_in_at 𝓛 F V.one_F full_share y b at τ
        V.is_F v) $
        -- the loan of the enum is one of the field from here on, and the enum follows it
        move t (2 ∷ 3 ∷ 4 ∷ 0 ∷ 1 ∷ []) $ group t 5 $
        use1 𝓛 (later (some (λ (δ : GName). ‵
        ((MutRef (named 0) κ F).own_val (record { ref_ptr = (b, at); ghost_name = δ; now = y }) (vptr b at ∷ [])) ⊛
        ‵ (flft κ q) ⊛ ‵ (follows R F γ δ make))))
        (lends_Part 𝓛 R F make (named 0) κ q b o b at γ (all 𝓤 Back) back g g y) $ await t z $
        pick t (λ δ. split3 t $ next δ)

-- the call's result r is at U, it is owned as `own` says, and `Says` is what is said of it
module _ {M : Type 1} {𝓤 : Ura M} {𝓛 : Logic 𝓤} {K : Type 0} {Γ : List (Item 𝓤)} {G : Goal 𝓤 𝓛.H} where
  pub comes_back : K → Soaks G → (R F U : RattleType) (make : F.Denot → R.Denot) (set : U.Denot → F.Denot)
      (own : MutBor U.Denot → Fml) (tokens : Item 𝓤)
      {W : Type 0} (lasts : W → Fml) (Says : MutBor U.Denot → Type 0) {γ δ : GName} {P : SProp 𝓤}
      → ent 𝓤 P (mean 𝓛 (later
      (some (λ (r : MutBor U.Denot). (tokens ⊛ ‵ (own r)) ⊛ some
      (λ (w : W). ‵ (lasts w) ⊛ ‵ (follows F U δ r.ghost_name set) ⊛
      raw (fact 𝓤 (Says r)))))))
      → ((r : MutBor U.Denot) → Says r
      → Seq K 𝓛 (‵ (own r) ∷ ‵ (follows R U γ r.ghost_name (λ w. make (set w))) ∷ tokens ∷ Γ) G)
      → Seq K 𝓛 (raw P ∷ ‵ (follows R F γ δ make) ∷ Γ) G
  comes_back t z R F U make set own tokens {W} lasts Says {γ} {δ} returned next =
      -- what was returned: r, which is owned, and which the field follows
      use1 𝓛 (later (some (λ (r : MutBor U.Denot). (tokens ⊛ ‵ (own r)) ⊛ some
      (λ (w : W). ‵ (lasts w) ⊛ ‵ (follows F U δ r.ghost_name set) ⊛
      raw (fact 𝓤 (Says r)))))) returned $ await t z $ pick t (λ r. split t $ split t $ move t (2 ∷ []) $
      pick t (λ w. split3 t $ drop t $
      move t (1 ∷ []) $ heard t (Says r) (λ said. move t (3 ∷ 0 ∷ []) $
      -- so the enum follows r
      use2 𝓛 (‵ (follows R U γ r.ghost_name (λ w. make (set w)))) (follows_then 𝓛 R F U make set γ δ r.ghost_name) $
      move t (2 ∷ []) $ next r said)))

pub slice_typed : (ℓ : Lifetime) (p : ℕ × ℕ) (n : ℕ) (v : Val) → v ≡ slice_val p n → n < 2 ^ 64
    → T (has_ty (slice_ty (ty_ref ℓ mut (ty_param 0))) v) × WT v
slice_typed ℓ p n v is fits = subst (λ (u : Val). T (has_ty (slice_ty (ty_ref ℓ mut (ty_param 0))) u) × WT u) (sym is)
    (tt, (tt, (record { fits = fits }, tt)))

pub ref_typed : (ℓ : Lifetime) (p : ℕ × ℕ) (v : Val) → v ≡ vptr p.0 p.1 → T (has_ty (ty_ref ℓ mut (ty_param 0)) v)
    × WT v
ref_typed ℓ p v is = subst (λ (u : Val). T (has_ty (ty_ref ℓ mut (ty_param 0)) u) × WT u) (sym is) (tt, tt)

abbrev lent_ty : Ty
lent_ty = slice_ty (ty_ref erased mut (ty_param 0))

module _ (X : RattleType) (κs : Lfts 3) where
  abbrev pub Whole : RattleType
  Whole = C.the_row (named_lft 3 1 tt κs) (param 0 X)

  abbrev pub Slice : RattleType
  Slice = MutSlice (named 1) κs.1.0 (param 0 X)

  abbrev pub Buffer : RattleType
  Buffer = Vec.the_row (param 0 X) Global.the_row TheImpl.ghosts

  abbrev owned_ty : Ty
  owned_ty = lone Buffer.mir

  abbrev pub lent : Variant Whole Slice
  lent = record {
    make = Borrowed;
    ν = (C.the_type (named_lft 3 1 tt κs) (param 0 X)).name;
    τss = ttcons (tcons lent_ty tnil) (ttcons (tcons owned_ty tnil) ttnil);
    k = 0;
    τ = lent_ty;
    there = refl;
    one = one_value lent_ty;
    one_R = refl;
    one_F = refl;
    is_R = refl;
    is_F = refl;
    owns_is = λ y vs. refl;
  }

  abbrev pub owned : Variant Whole Buffer
  owned = record {
    make = Owned;
    ν = lent.ν;
    τss = lent.τss;
    k = 1;
    τ = owned_ty;
    there = refl;
    one = one_value owned_ty;
    one_R = refl;
    one_F = refl;
    is_R = refl;
    is_F = refl;
    owns_is = λ y vs. refl;
  }
