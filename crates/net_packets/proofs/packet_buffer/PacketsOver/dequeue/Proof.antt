-- `dequeue` takes the first packet off by `take`, and hands on its header and what `last_dequeued_mut` lends.
use Rattle.net_packets.proofs.QueueWalks.{◌≡◌, refl, sym, subst, ap, ◌∙◌, ◌≢◌, inl, inr, List, [], ◌∷◌, ◌++◌, ℕ, ◌<◌}
use Rattle.net_packets.proofs.QueueWalks.{◌^◌, length, T, lit<, Ura, Fn, named, w64, inst_fn, Val, vint, vptr, vstruct}
use Rattle.net_packets.proofs.QueueWalks.{of_list, has_ty, WT, SProp, ent, sep, emp, id⊢, GName, Share, Fml, flft, fres}
use Rattle.net_packets.proofs.QueueWalks.{Env, WpFn, Wp, after_seq, at_return, Model, Logic, sem, ◌⊑◌, ⊑_trans}
use Rattle.net_packets.proofs.QueueWalks.{meet_⊑_right, Lfts, Shares, AllOutlive, fact, fact_i, Running, MachineTables}
use Rattle.net_packets.proofs.QueueWalks.{tables, mean, any_q, After, rewrite, frame, ‵, raw, ◌⊛◌, some, later, at_ret}
use Rattle.net_packets.proofs.QueueWalks.{◌$◌, ◌∵◌, !, qed, by, move, keep, drop, split, split3, join, fsplit, fsplit3}
use Rattle.net_packets.proofs.QueueWalks.{fjoin, feq_i, fpack, pick, suffices, use0, use1, use2, use3, await, done}
use Rattle.net_packets.proofs.QueueWalks.{stop, fld, addr, lit, of_opd, no_more, and_then, first, switches_on, exec}
use Rattle.net_packets.proofs.QueueWalks.{returns, returns_within, enter, lands_as, alloc_all, pass_all, free_all}
use Rattle.net_packets.proofs.QueueWalks.{look_at, get, get_tag, through, sets, env, agg, whole, live, vrt, no}
use Rattle.net_packets.proofs.QueueWalks.{RattleType, Valss, owns, Is, shows, plain, mut_ref_to, u8, usize, MutBor}
use Rattle.net_packets.proofs.QueueWalks.{MutRef, mut_vals, mut_Tells, uint_Makes, layout, param_laws, Array, MutSlice}
use Rattle.net_packets.proofs.QueueWalks.{slice_val, within, Tuple, follows, follows_by, nothing, owned, heard, peeks}
use Rattle.net_packets.proofs.QueueWalks.{only, Clauses, Ended, lasts, on_entry, Meets, triple_of, Contract, framed}
use Rattle.net_packets.proofs.QueueWalks.{calls_at, Stays, stay_dropped, walk_of, ends_at, Goes-spent_ref, after, front}
use Rattle.net_packets.proofs.QueueWalks.{arm_body, ok_of, err_of, Ok, Err, IsErr, OnOk, OnErr, ◌↔◌, lent, Back}
use Rattle.net_packets.proofs.QueueWalks.{lends_inside, comes_inside, no_fields, alone, ok_or_err, ok_had, err_had}
use Rattle.net_packets.proofs.QueueWalks.{pair_had, pair_of, pair_val, pair_typed, and_fact, says_all, Given, args}
use Rattle.net_packets.proofs.QueueWalks.{Header, Self, Q, Live, others, Asked, asked, lives}
use mathlib.Core.Path.{ap₂}
use lib.ListN.{take as take-list, drop as drop-list}
use mir.Syntax.{erased, mut, w8, ty_int, ty_ref}
use types.ByLocal.{get_in, sets_last}
use types.Part.{sub}
use types.Match.{in_variant}
use denote.Slice.{slice_ty}
use Rattle.std.proofs.raw_atomic.Walks.{proved}
use Rattle.std.proofs.ResultValues.{and_tt}
use Rattle.std.specs.Prelude.{IfOk}
use Rattle.net_packets.specs.{without_gap, without_first_and_gap, last_dequeued_bytes_index, last_dequeued_bytes}
use Rattle.net_packets.specs.{AreLastDequeued, IsFirstSized, IsFirst, first_size, without_first_gap, with_bytes}
use Rattle.net_packets.specs.PacketHistory.{contents, Makes, Take as Taken, WriteLastDequeued}
use Rattle.net_packets.proofs.packet_buffer.PacketsOver.take.Symbol.{name as #take}
use Rattle.net_packets.proofs.packet_buffer.PacketsOver.last_dequeued_mut.Symbol.{name as #last_dequeued}
use Rattle.net_packets.specs.contracts.packet_buffer.PacketsOver.dequeue.Key.{name as #self}
use denote.Struct.Declared as Declared
use Rattle.std.specs.contracts.result.Result as RS
use Rattle.net_ring.specs.contracts.error.Empty as EM
use Rattle.net_packets.specs.contracts.packet_buffer.PacketsOver.take as take
use Rattle.net_packets.proofs.packet_buffer.PacketsOver.take.Met as take_met
use Rattle.net_packets.specs.contracts.packet_buffer.PacketsOver.last_dequeued_mut as last_dequeued
use Rattle.net_packets.proofs.packet_buffer.PacketsOver.last_dequeued_mut.Met as last_dequeued_met
use Rattle.net_packets.specs.contracts.packet_buffer.PacketsOver.dequeue as F
use Rattle.net_packets.proofs.packet_buffer.PacketsOver.dequeue.Statement as stated
use Rattle.net_packets.proofs.packet_buffer.PacketsOver.dequeue.Code as code

module _ (G : Given) where
  abbrev function : Fn
  function = inst_fn (args G) code.function

  abbrev ended : Ended
  ended = F.ended G.H G.N G.B G.slots G.slots_by G.bytes G.bytes_by G.drops_by

  abbrev stayed : Stays ended.signature.params ended.kept
  stayed = (stay_dropped (mut_ref_to (0 ∷ []) tt (plain (λ _. Self G))) no, tt)

module _ (G : Given) {M : Type 1} {𝓤 : Ura M} (𝓛 : Logic 𝓤) (𝓜 : Model 𝓤 𝓛.H) (𝓡 : Running 𝓤 𝓛.H 𝓜)
    (take-met : Meets 𝓛 (take.signature G.H G.N G.B G.slots G.slots_by G.bytes G.bytes_by G.drops_by)
    (𝓡.run (𝓡.env (#take (args G))))
    (take.spec G.H G.N G.B G.slots G.slots_by G.bytes G.bytes_by G.drops_by 𝓛 𝓜.mem 𝓡.returns))
    (last_dequeued-met : Meets 𝓛
    (last_dequeued.signature G.H G.N G.B G.slots G.slots_by G.bytes G.bytes_by G.drops_by)
    (𝓡.run (𝓡.env (#last_dequeued (args G))))
    (last_dequeued.spec G.H G.N G.B G.slots G.slots_by G.bytes G.bytes_by G.drops_by 𝓛 𝓜.mem 𝓡.returns)) where
  open 𝓛 use {H}

  abbrev 𝓣 : MachineTables 𝓤 H 𝓜
  𝓣 = tables 𝓤 H 𝓜 𝓡 𝓡.env

  abbrev all_clauses : Clauses 𝓤 (ended G)
  all_clauses = F.clauses G.H G.N G.B G.slots G.slots_by G.bytes G.bytes_by G.drops_by 𝓛 𝓜.mem 𝓡.returns

  abbrev Take : Contract 𝓤
  Take = triple_of 𝓛 (take.signature G.H G.N G.B G.slots G.slots_by G.bytes G.bytes_by G.drops_by)
      (take.spec G.H G.N G.B G.slots G.slots_by G.bytes G.bytes_by G.drops_by 𝓛 𝓜.mem 𝓡.returns)

  abbrev LastDequeued : Contract 𝓤
  LastDequeued = triple_of 𝓛 (last_dequeued.signature G.H G.N G.B G.slots G.slots_by G.bytes G.bytes_by G.drops_by)
      (last_dequeued.spec G.H G.N G.B G.slots G.slots_by G.bytes G.bytes_by G.drops_by 𝓛 𝓜.mem 𝓡.returns)

  module _ (κs : Lfts 4) (qs : Shares 4) (bounds : AllOutlive 4 (ended G).signature.outlives κs) (live-in : Live G κs)
      (self : MutBor (Q G)) where
    abbrev x : Q G
    x = self.now

    -- the queue without its first packet, and where that one's bytes are
    abbrev y : Q G
    y = without_first_and_gap x

    abbrev from : ℕ
    from = (without_gap x).read_at

    abbrev bound : (walk_of 𝓛 (ended G) (stayed G) all_clauses).Ghost
    bound = ((κs, qs, bounds, (self, tt), (mut_vals self, tt)), tt)

    abbrev Post : Val → SProp 𝓤
    Post = (walk_of 𝓛 (ended G) (stayed G) all_clauses).post bound

    abbrev Part : RattleType
    Part = MutSlice (named 0) κs.0 u8

    abbrev Both : RattleType
    Both = Tuple (Header G ∷ Part ∷ [])

    abbrev Answer : RattleType
    Answer = RS.the_row (Tuple (Header G ∷ usize ∷ [])) EM.the_row

    abbrev mine : Q G → Fml
    mine = lent 𝓛 κs.0 (Self G) qs.0 self κs.0 self.ghost_name

    abbrev ends_as : Q G → Fml
    ends_as m = fres self.ghost_name ((Self G).coded.code m)

    abbrev follow : ℕ → MutBor (List ℕ) → Fml
    follow k r = follows (Self G) (Array u8 0) self.ghost_name r.ghost_name (with_bytes y k)

    module _ (p : ℕ × Share × GName) where
      abbrev κ' : List ℕ
      κ' = p.0 ∷ κs.0

      abbrev in_κ : κ' ⊑ κs.0
      in_κ = meet_⊑_right (p.0 ∷ []) κs.0

      abbrev to_take : Take.Ghost
      to_take = (
        (
          (κ', κs.1),
          (p.1, qs.1),
          (
            ⊑_trans κ' κs.0 κs.1.0 in_κ bounds.0,
            (⊑_trans κ' κs.0 κs.1.1.0 in_κ bounds.1.0, (⊑_trans κ' κs.0 κs.1.1.1.0 in_κ bounds.1.1.0, tt)),
          ),
          (record self { ghost_name = p.2 }, tt),
          (mut_vals self, tt),
        ),
        tt,
      )

    abbrev to_last_dequeued : ℕ → LastDequeued.Ghost
    to_last_dequeued s = (
      (
        κs,
        qs,
        bounds,
        (record self { now = y }, (s, tt)),
        (mut_vals self, (vint w64 s ∷ [], tt)),
      ),
      tt,
    )

    -- the end at `Err`, where self ends as it was
    refuses : length x.packets ≡ 0 → contents x ≡ [] →
        ent 𝓤 (sep 𝓤 (sem 𝓛 (ends_as x)) (sep 𝓤 (𝓛.A.lft κs.0 qs.0) (mean 𝓛 (others G 𝓤 κs qs))))
        (Post (live 1 (of_list (no_fields ∷ []))))
    unfolding follows_by
    refuses none no_contents =
        qed 𝓛 (‵ (ends_as x) ∷ ‵ (flft κs.0 qs.0) ∷ others G 𝓤 κs qs ∷ []) ∵
        nothing ! $ feq_i ! (List Val) (no_fields ∷ []) (no_fields ∷ []) refl $ fjoin ! $
        fpack ! (Valss []) (within (Declared.shape EM.the_type) tt (no_fields ∷ [])) tt $
        use1 𝓛 (‵ ((RS.the_row Both EM.the_row).own_val (Err (record {})) (live 1 (of_list (no_fields ∷ [])) ∷ [])))
        (err_of 𝓛 Both EM.the_row (record {}) no_fields) $
        suffices ! _ (ends_at 𝓛 (ended G) (stayed G) all_clauses bound (live 1 (of_list (no_fields ∷ [])))
        (Err (record {})) (tt, tt) (tt, tt)) $
        nothing ! $ nothing ! $ fjoin ! $ join ! $ move ! (2 ∷ 3 ∷ []) $ join ! $ join ! $ frame ! $
        says_all ! (and_fact 𝓤 _ _ ((λ _. no_contents), (λ _. refl)) (and_fact 𝓤 _ _ tt (and_fact 𝓤 _ _ tt
        (and_fact 𝓤 _ _ ((λ _. none), (λ _. refl)) (and_fact 𝓤 _ _ tt (fact_i 𝓤 _ (emp 𝓤) tt)))))) $ done !

    -- the first packet has the header h and the bytes ws
    abbrev Shows : G.H.Denot → List ℕ → Type 0
    Shows h ws = contents x ≡ (h, ws) ∷ drop-list 1 (contents x)

    -- what the contents are, once n bytes from the place k on are written
    abbrev Leaves : ℕ → ℕ → Type 0
    Leaves n k = (ws : List ℕ) → length ws ≡ n → contents (with_bytes y k ws) ≡ drop-list 1 (contents x)

    -- the end at `Ok`, where self follows the part
    lends : (h : G.H.Denot) (hv : Val) (r : MutBor (List ℕ)) (w : Val) → length x.packets ≢ 0 →
        contents x ≢ [] → Shows h r.now →
        Leaves (length r.now) from → IsFirst x h r.now
        → ent 𝓤 (sep 𝓤 (sem 𝓛 ((Header G).own_val h (hv ∷ [])))
        (sep 𝓤 (sem 𝓛 (Part.own_val r (w ∷ [])))
        (sep 𝓤 (sem 𝓛 (follow from r)) (sep 𝓤 (𝓛.A.lft κs.0 qs.0) (mean 𝓛 (others G 𝓤 κs qs))))))
        (Post (live 0 (of_list (pair_val hv w ∷ []))))
    unfolding follows_by
    lends h hv r w is_some has_some shown leaves is_head =
        qed 𝓛 (‵ ((Header G).own_val h (hv ∷ [])) ∷ ‵ (Part.own_val r (w ∷ [])) ∷ ‵ (follow from r) ∷ ‵
        (flft κs.0 qs.0) ∷ others G 𝓤 κs qs ∷ []) ∵
        use2 𝓛 (‵ (Both.own_val (h, r) (pair_val hv w ∷ []))) (pair_of 𝓛 (Header G) Part h r hv w) $
        use1 𝓛 (‵ ((RS.the_row Both EM.the_row).own_val (Ok (h, r)) (live 0 (of_list (pair_val hv w ∷ [])) ∷ [])))
        (ok_of 𝓛 Both EM.the_row (h, r) (pair_val hv w)) $
        suffices ! _ (ends_at 𝓛 (ended G) (stayed G) all_clauses bound (live 0 (of_list (pair_val hv w ∷ [])))
        (Ok (h, r)) (tt, tt) (tt, tt)) $
        nothing ! $ nothing ! $ fjoin ! $ join ! $ move ! (2 ∷ 3 ∷ []) $ join ! $ join ! $ frame ! $
        says_all ! (and_fact 𝓤 _ _ (
          (λ f. absurd (subst T (sym f) tt)),
          (λ e. absurd (has_some e)),
        ) (and_fact 𝓤 _ _ shown (and_fact 𝓤 _ _ leaves
        (and_fact 𝓤 _ _ ((λ f. absurd (subst T (sym f) tt)), (λ e. absurd (is_some e))) (and_fact 𝓤 _ _ is_head
        (fact_i 𝓤 _ (emp 𝓤) (λ ws long. (is_head, long, refl)))))))) $ done !

    walk : ent 𝓤 (on_entry 𝓛 (ended G).signature κs qs bound.0.3 bound.0.4)
        (WpFn 𝓤 H 𝓣.C 𝓣.Λ (function G) (vptr self.ref_ptr.0 self.ref_ptr.1 ∷ []) Post)
    unfolding follows_by
    walk =
        qed 𝓛 ((‵ (flft κs.0 qs.0) ⊛ others G 𝓤 κs qs) ∷ ‵
        (owns (MutRef (named 0) κs.0 (Self G) ∷ []) bound.0.3 bound.0.4) ∷ []) ∵
        split ! $ move ! (2 ∷ []) $ fsplit ! $ move ! (1 ∷ []) $ drop ! $
        -- [self; the token; the other tokens]
        enter ! 𝓣.C 𝓣.Λ (function G) (vptr self.ref_ptr.0 self.ref_ptr.1 ∷ []) _ $
        alloc_all ! (λ l. pass_all ! refl ((tt, tt), tt) $ let En : Env 𝓤 H = env (function G).locals l in
        let Then : After 𝓤 H = any_q
        (after_seq 𝓤 H (Wp 𝓤 H 𝓣.C 𝓣.Λ En (after 3 (function G).body) (at_return 𝓤 H En Post))
        (at_return 𝓤 H En Post)) in
        sets ! (addr ! (through ! refl (stop !))) refl (tt, tt) $
        use2 𝓛 (later (some (λ (p : ℕ × Share × GName). ‵ (lent 𝓛 κs.0 (Self G) qs.0 self (κ' p) p.2 x) ⊛ ‵
        (flft (κ' p) p.1) ⊛
        raw (Back 𝓛 κs.0 (Self G) qs.0 self p))))
        (lends_inside 𝓛 κs.0 (Self G) qs.0 self x) $ await ! tt $ pick ! (λ p. split3 ! $
        -- [self, lent; its token; the way back; the other tokens]
        nothing ! $ move ! (1 ∷ 0 ∷ []) $ fjoin ! $ move ! (1 ∷ 3 ∷ []) $ join ! $ join ! $
        nothing ! $ use1 𝓛 (raw (Asked G 𝓤 κs (emp 𝓤))) (asked G 𝓛 κs live-in (emp 𝓤)) $ move ! (1 ∷ 0 ∷ []) $ join ! $
        use1 𝓛 (raw (Take.pre (to_take p))) (id⊢ 𝓤 _) $
        calls_at ! (framed 𝓤 H 𝓜 𝓣) Take take-met (to_take p) (and_then ! (get ! refl) (no_more !)) (λ v.
        use1 𝓛 (later (some (λ (r : Answer.Denot).
        ((‵ (flft (κ' p) p.1) ⊛ others G 𝓤 κs qs) ⊛ ‵ (Answer.own_val r (v ∷ []))) ⊛
        some (λ (ws : Q G × Unit {0}).
        ‵ (lasts (take.ended G.H G.N G.B G.slots G.slots_by G.bytes G.bytes_by G.drops_by) (to_take p).0.0
        (to_take p).0.3 ws)
        ⊛ raw (fact 𝓤 (IsErr r ↔ (contents x ≡ []))) ⊛ raw
        (fact 𝓤 (IfOk r (λ t. contents x ≡ (t.0, last_dequeued_bytes ws.0 t.1) ∷ contents ws.0))) ⊛
        raw (fact 𝓤 (OnOk r (contents ws.0 ≡ drop-list 1 (contents x))))
        ⊛ raw (fact 𝓤 (IsErr r ↔ (length x.packets ≡ 0))) ⊛ raw (fact 𝓤 (OnErr r (ws.0 ≡ x))) ⊛
        raw (fact 𝓤 (IfOk r (λ t. IsFirstSized x.packets t.0 t.1))) ⊛ raw (fact 𝓤 (OnOk r (ws.0 ≡ y)))
        ⊛ raw (fact 𝓤 (IfOk r (λ t. AreLastDequeued ws.0 t.1 × (last_dequeued_bytes_index ws.0 t.1 ≡ from))))
        ⊛ raw (fact 𝓤 ((ws.0.slot_count ≡ x.slot_count) × (length ws.0.storage ≡ length x.storage)))
        ⊛ raw (fact 𝓤 (IfOk r (λ t. Makes (Taken t.0 (last_dequeued_bytes ws.0 t.1)) x ws.0)))))))
        (id⊢ 𝓤 (Take.post (to_take p) v)) $
        await ! tt $ pick ! (λ r. split ! $ split ! $ move ! (2 ∷ []) $
        pick ! (λ ws. split3 ! $ move ! (1 ∷ []) $ heard ! _ (λ none. move ! (1 ∷ []) $ split3 ! $
        heard ! _ (λ taken. heard ! _ (λ left. split3 ! $
        heard ! _ (λ empty. heard ! _ (λ unchanged. split3 ! $ heard ! _
        (λ is_first. heard ! _ (λ is_taken. split3 ! $
        heard ! _ (λ is_last_dequeued. heard ! _
        (λ _. heard ! _ (λ _. fsplit ! $ fsplit ! $ move ! (3 ∷ []) $ split ! $
        -- [the token; the other tokens; the loan's last value; its borrow; nothing; the answer; the way back]
        move ! (0 ∷ 2 ∷ 6 ∷ []) $
        use3 𝓛 (later (‵ (mine ws.0) ⊛ ‵ (flft κs.0 qs.0))) (comes_inside 𝓛 κs.0 (Self G) qs.0 self p ws.0) $
        await ! tt $ split ! $
        move ! (3 ∷ []) $ drop ! $ move ! (3 ∷ []) $ drop ! $
        -- [self; the token; the other tokens; the answer]
        elim (ok_or_err r) [
          | inl c ↦
              let h : G.H.Denot = c.0.0 in
              let s : ℕ = c.0.1 in
              let is_y : ws.0 ≡ y = subst (λ t. OnOk t (ws.0 ≡ y)) c.1 is_taken in
              let head_is : IsFirstSized x.packets h s =
              subst (λ t. IfOk t (λ u. IsFirstSized x.packets u.0 u.1)) c.1 is_first in
              let lies : AreLastDequeued y s × (last_dequeued_bytes_index y s ≡ from) = subst
              (λ m. AreLastDequeued m s × (last_dequeued_bytes_index m s ≡ from)) is_y
              (subst (λ t. IfOk t (λ u. AreLastDequeued ws.0 u.1 × (last_dequeued_bytes_index ws.0 u.1 ≡ from))) c.1
              is_last_dequeued) in
              let lists : contents x ≡ (h, last_dequeued_bytes y s) ∷ contents y =
              subst (λ m. contents x ≡ (h, last_dequeued_bytes m s) ∷ contents m) is_y
              (subst (λ t. IfOk t (λ u. contents x ≡ (u.0, last_dequeued_bytes ws.0 u.1) ∷ contents ws.0)) c.1 taken) in
              let rest : contents y ≡ drop-list 1 (contents x) = subst
              (λ m. contents m ≡ drop-list 1 (contents x)) is_y
              (subst (λ t. OnOk t (contents ws.0 ≡ drop-list 1 (contents x))) c.1 left) in
              rewrite ! 0 (λ (m : Q G). ‵ (mine m)) is_y refl $
              rewrite ! 3 (λ (t : Answer.Denot). ‵ (Answer.own_val t (v ∷ []))) c.1 refl $ move ! (3 ∷ []) $
              ok_had ! (Tuple (Header G ∷ usize ∷ [])) EM.the_row c.0 v
              (λ ts is_v. pair_had ! (Header G) usize h s ts
              (λ us vs is_pair. peeks ! (Header G) (Is (Header G)) (shows 𝓛 (Header G)) h us (λ is_h.
              let one = alone (layout G.H) us (((param_laws 0 G.H G.laws).lawful 𝓛).typed h us is_h) in
              let hv : Val = one.0 in
              let good : T (has_ty (layout G.H) hv) × WT hv = one.2 in
              rewrite ! 0 (λ (l : List Val). ‵ ((Header G).own_val h l)) one.1 refl $ move ! (1 ∷ []) $
              peeks ! usize (Is usize) (shows 𝓛 usize) s vs (λ is_s. drop ! $
              -- [the header; self; the token; the other tokens]
              let sized = pair_typed (layout G.H) (ty_int w64) hv (vint w64 s) good (tt, record { fits = is_s.1 }) in
              -- the answer is in its place: the variant `Ok`, with the pair of the header and the size
              lands_as ! (is_v ∙ ap (λ (l : List Val). live 0 (of_list (l ++ []))) is_pair
              ∙ (λ i. live 0 (of_list (vstruct (of_list (one.1 i ++ (is_s.0 i ++ []))) ∷ [])))) refl
              (and_tt _ sized.0, (record { fits = lit< tt }, (sized.1, tt))) $
              first ! $ switches_on ! (get_tag ! (vrt ! refl (fld ! refl (stop !))) (whole !)) $
              -- its arm runs: the header and the size are taken out of the pair
              exec ! 𝓣.C 𝓣.Λ En (arm_body 0 (front (after 2 (function G).body))) Then $
              sets ! (of_opd ! (get_in ! (vrt ! refl (fld ! refl (fld ! refl (stop !))))
              (sub ! 0 refl (in_variant ! 0 0 refl refl (whole !))))) refl good $
              sets_last ! (of_opd ! (get_in ! (vrt ! refl (fld ! refl (fld ! refl (stop !))))
              (sub ! 1 refl (in_variant ! 0 0 refl refl (whole !))))) refl
              (tt, record { fits = is_s.1 }) $
              -- the rest of the body runs: self is lent on, and the size is an argument beside it
              exec ! 𝓣.C 𝓣.Λ En (after 3 (function G).body) (at_ret En Post) $
              sets ! (of_opd ! (get ! refl)) refl good $ sets ! (addr ! (through ! refl (stop !))) refl (tt, tt) $
              nothing ! $ owned ! usize (Is usize) (uint_Makes 𝓛 w64) s _ (refl, is_s.1) $ fjoin ! $
              move ! (2 ∷ 0 ∷ []) $
              fjoin ! $ move ! (2 ∷ 3 ∷ []) $ join ! $ join ! $
              -- what `last_dequeued_mut` requires holds, and it is called
              use0 𝓛 (raw (fact 𝓤 (AreLastDequeued y s))) (fact_i 𝓤 _ (emp 𝓤) lies.0) $
              use1 𝓛 (raw (Asked G 𝓤 κs (fact 𝓤 (AreLastDequeued y s))))
              (asked G 𝓛 κs live-in (fact 𝓤 (AreLastDequeued y s))) $
              move ! (1 ∷ 0 ∷ []) $ join ! $ use1 𝓛 (raw (LastDequeued.pre (to_last_dequeued s))) (id⊢ 𝓤 _) $
              calls_at ! (framed 𝓤 H 𝓜 𝓣) LastDequeued last_dequeued-met (to_last_dequeued s)
              (and_then ! (get ! refl) (and_then ! (get ! refl) (no_more !))) (λ u.
              -- it returned the part m, which self follows, and what its clauses say
              use1 𝓛 (later (some (λ (m : MutBor (List ℕ)).
              ((‵ (flft κs.0 qs.0) ⊛ others G 𝓤 κs qs) ⊛ ‵ (Part.own_val m (u ∷ []))) ⊛
              some (λ (ws : Unit {0} × (Unit {0} × Unit {0})).
              ‵ (lasts (last_dequeued.ended G.H G.N G.B G.slots G.slots_by G.bytes G.bytes_by G.drops_by)
              (to_last_dequeued s).0.0 (to_last_dequeued s).0.3 ws)
              ⊛ ‵ (follow (last_dequeued_bytes_index y s) m)
              ⊛ raw (fact 𝓤 ((l : List ℕ) → length l ≡ s → contents (with_bytes y (last_dequeued_bytes_index y s) l)
              ≡ contents y)) ⊛
              raw (fact 𝓤 (m.now ≡ take-list s (drop-list (last_dequeued_bytes_index y s) y.storage))) ⊛ raw
              (fact 𝓤 (length m.now ≡ s))
              ⊛ raw (fact 𝓤 ((l : List ℕ) → length (with_bytes y (last_dequeued_bytes_index y s) l).storage
              ≡ length y.storage))
              ⊛ raw (fact 𝓤 ((l : List ℕ) → length l ≡ s →
              Makes (WriteLastDequeued l) y (with_bytes y (last_dequeued_bytes_index y s) l)))))))
              (id⊢ 𝓤 (LastDequeued.post (to_last_dequeued s) u)) $
              await ! tt $ pick ! (λ m. split ! $ split ! $ move ! (2 ∷ []) $
              pick ! (λ _. split3 ! $ drop ! $ move ! (1 ∷ []) $ split3 ! $
              heard ! _ (λ unseen. heard ! _ (λ value. split3 ! $ heard ! _ (λ size. heard ! _ (λ _. heard ! _ (λ _.
              -- [what self follows; the tokens; the part; the header]
              rewrite ! 0 (λ (p : ℕ). ‵ (follow p m)) lies.1 refl $ move ! (2 ∷ []) $
              peeks ! Part (Is Part) (shows 𝓛 Part) m (u ∷ []) (λ ok.
              -- the part and the header are made a pair, and the pair an `Ok`, which is returned
              let w : Val = slice_val m.ref_ptr (length m.now) in
              let fits : length m.now < 2 ^ 64 = ok.0.1.0 in
              let both = pair_typed (layout G.H) (slice_ty (ty_ref erased mut (ty_int w8))) hv w good (
                tt,
                (tt, (record { fits = fits }, tt)),
              ) in
              let sizes : first_size (without_first_gap x.packets) ≡ s =
              ap (λ ps. first_size (without_first_gap ps)) head_is in
              lands_as ! (ap only ok.0.0) refl (tt, (tt, (record { fits = fits }, tt))) $
              sets ! (agg ! (and_then ! (get ! refl) (and_then ! (get ! refl) (no_more !)))) refl both $
              sets ! (agg ! (and_then ! (lit ! tt) (and_then ! (get ! refl) (no_more !)))) refl (
                and_tt _ both.0,
                (record { fits = lit< tt }, (both.1, tt)),
              ) $
              rewrite ! 0 (λ (l : List Val). ‵ (Part.own_val m l)) ok.0.0 refl $ returns ! (look_at ! 0 refl) $
              free_all ! refl $ keep ! (3 ∷ 0 ∷ 1 ∷ 2 ∷ []) $
              let shown : Shows h m.now = lists
              ∙ ap₂ (λ (l : List ℕ) (t : List (G.H.Denot × List ℕ)). (h, l) ∷ t) (sym value) rest in
              let leaves : Leaves (length m.now) from = λ l long. subst
              (λ (p : ℕ). contents (with_bytes y p l) ≡ contents y) lies.1 (unseen l (long ∙ size)) ∙ rest in
              by ! (lends h hv m w (λ e. subst T (sym (subst (λ t. IsErr t) c.1 (empty.1 e))) tt)
              (λ e. subst T (sym (subst (λ t. IsErr t) c.1 (none.1 e))) tt) shown leaves (
                subst (IsFirstSized x.packets h) (sym size) head_is,
                value
                    ∙ (λ i. take-list (sym sizes i) (drop-list (lies.1 i) x.storage)),
              )))))))))))))))
          | inr c ↦
              let is_x : ws.0 ≡ x = subst (λ t. OnErr t (ws.0 ≡ x)) c.1 unchanged in
              rewrite ! 0 (λ (m : Q G). ‵ (mine m)) is_x refl $
              rewrite ! 3 (λ (t : Answer.Denot). ‵ (Answer.own_val t (v ∷ []))) c.1 refl $ move ! (3 ∷ []) $
              err_had ! (Tuple (Header G ∷ usize ∷ [])) EM.the_row c.0 v
              (λ us is_v. peeks ! EM.the_row (Is EM.the_row) (shows 𝓛 EM.the_row) c.0 us (λ is_error. drop ! $
              lands_as ! (is_v ∙ ap (λ (l : List Val). live 1 (of_list (l ++ []))) is_error.1.0) refl (
                tt,
                (record { fits = lit< tt }, (tt, tt)),
              ) $
              first ! $ switches_on ! (get_tag ! (vrt ! refl (fld ! refl (stop !))) (whole !)) $
              exec ! 𝓣.C 𝓣.Λ En (arm_body 1 (front (after 2 (function G).body))) Then $
              fsplit3 ! $ drop ! $ use1 𝓛 (‵ (ends_as x)) (𝓛.names.obs-res self.ghost_name ((Self G).coded.code x)) $
              -- [what self ends as; its borrow; the token; the other tokens]
              sets ! (agg ! (no_more !)) refl (tt, tt) $
              sets ! (agg ! (and_then ! (lit ! tt) (and_then ! (get ! refl) (no_more !)))) refl (
                tt,
                (record { fits = lit< tt }, (tt, tt)),
              ) $
              returns_within ! Post refl (look_at ! 0 refl) $ free_all ! refl $ keep ! (0 ∷ 2 ∷ 3 ∷ []) $
              by ! (refuses (empty.0 (subst (λ t. IsErr t) (sym c.1) refl))
              (none.0 (subst (λ t. IsErr t) (sym c.1) refl)))))
        ])))))))))))))))

pub dequeue_spec : {M : Type 1} → stated.statement M
dequeue_spec 𝓤 𝓛 𝓜 𝓡 wired X Y Z LX LY LZ g gd b bd hd gm bm hm =
    let G : Given = record {
      H = X;
      N = Y;
      B = Z;
      laws = LX;
      slots = g;
      slots_by = gd;
      bytes = b;
      bytes_by =
          bd;
      drops_by = hd;
    } in
    let first = take_met.met 𝓤 𝓛 𝓜 𝓡 (code.calls-net_packets::packet_buffer::PacketsOver::take 𝓡.env wired) X Y Z LX
    LY LZ g gd b bd hd gm bm hm in
    let second = last_dequeued_met.met 𝓤 𝓛 𝓜 𝓡
    (code.calls-net_packets::packet_buffer::PacketsOver::last_dequeued_mut 𝓡.env wired) X Y Z LX LY LZ g gd b
    bd hd gm bm hm in
    proved 𝓛 (ended G) (stayed G) (all_clauses G 𝓛 𝓜 𝓡 first second) 𝓜 𝓡
    (Goes-spent_ref 𝓛 4 (0 ∷ []) tt (plain (λ _. Self G)), tt)
    (#self (args G)) (function G) (code.unfolded 𝓤 𝓛.H 𝓜 𝓡 wired (X, (Y, (Z, tt))) gd bd hd)
    (λ κs. (mut_vals, tt)) (λ κs. (mut_Tells (named 0) κs.0 (Self G), tt))
    (λ κs qs bounds a g are. lives G 𝓛 κs _ _ (λ live-in. walk G 𝓛 𝓜 𝓡 first second κs qs bounds live-in a.0))
