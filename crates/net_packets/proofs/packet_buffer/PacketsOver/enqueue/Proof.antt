-- `enqueue` places the packet by `place`, and hands on what `last_part_mut` lends.
use Rattle.net_packets.proofs.QueueWalks.{◌≡◌, refl, sym, subst, ap, ◌∙◌, ◌≢◌, inl, inr, List, [], ◌∷◌, ◌++◌, ℕ, ◌<◌}
use Rattle.net_packets.proofs.QueueWalks.{◌^◌, length, T, lit<, Ura, Fn, named, w64, inst_fn, Val, vint, vptr, of_list}
use Rattle.net_packets.proofs.QueueWalks.{has_ty, WT, SProp, ent, sep, emp, id⊢, GName, Share, Fml, flft, fres, Env}
use Rattle.net_packets.proofs.QueueWalks.{WpFn, Wp, after_seq, at_return, Model, Logic, sem, ◌⊑◌, ⊑_trans, meet_⊑_right}
use Rattle.net_packets.proofs.QueueWalks.{Lfts, Shares, AllOutlive, fact, fact_i, Running, MachineTables, tables, mean}
use Rattle.net_packets.proofs.QueueWalks.{any_q, After, rewrite, frame, ‵, raw, ◌⊛◌, some, later, at_ret, ◌$◌, ◌∵◌, ! }
use Rattle.net_packets.proofs.QueueWalks.{qed, by, move, keep, drop, split, split3, join, fsplit, fsplit3, fjoin, feq_i}
use Rattle.net_packets.proofs.QueueWalks.{fpack, pick, suffices, use0, use1, use2, use3, await, done, stop, fld, addr}
use Rattle.net_packets.proofs.QueueWalks.{lit, of_opd, no_more, and_then, first, switches_on, exec, returns}
use Rattle.net_packets.proofs.QueueWalks.{returns_within, enter, lands_as, alloc_all, pass_all, free_all, look_at, get}
use Rattle.net_packets.proofs.QueueWalks.{get_tag, through, sets, env, agg, whole, live, vrt, no, RattleType, Valss}
use Rattle.net_packets.proofs.QueueWalks.{owns, Is, shows, plain, mut_ref_to, u8, usize, MutBor, MutRef, mut_vals}
use Rattle.net_packets.proofs.QueueWalks.{mut_Tells, uint_Makes, layout, param_laws, Array, MutSlice, slice_val, within}
use Rattle.net_packets.proofs.QueueWalks.{follows, follows_by, nothing, owned, heard, peeks, only, Clauses, Ended}
use Rattle.net_packets.proofs.QueueWalks.{lasts, on_entry, Meets, triple_of, Contract, framed, calls_at, Stays}
use Rattle.net_packets.proofs.QueueWalks.{stay_dropped, walk_of, ends_at, Goes-spent_ref, after, front, arm_body, ok_of}
use Rattle.net_packets.proofs.QueueWalks.{err_of, Ok, Err, IsErr, OnOk, OnErr, ◌↔◌, lent, Back, lends_inside}
use Rattle.net_packets.proofs.QueueWalks.{comes_inside, no_fields, alone, ok_or_err, ok_had, err_had, and_fact}
use Rattle.net_packets.proofs.QueueWalks.{says_all, Given, args, Header, Self, Q, Live, others, Asked, asked, lives}
use types.Run.{skips}
use denote.Exit.{yes}
use denote.Laws.{Are, Ises}
use denote.Signature.{types_at}
use denote.Builtin.{unit}
use denote.Triple.Walked.{Goes-dropped}
use Rattle.std.proofs.raw_atomic.Walks.{proved_at}
use Rattle.std.specs.declared.option.Option.TheVariants.{None}
use Rattle.net_packets.specs.{placement, with_packet_if, with_packet_if_room, only_last as last-of, first_size}
use Rattle.net_packets.specs.{last_bytes, with_last_bytes, contents, Makes, Place as Placed}
use Rattle.net_packets.proofs.PacketOrder.{enqueue_call}
use Rattle.net_packets.proofs.packet_buffer.PacketsOver.place.Symbol.{name as #place}
use Rattle.net_packets.proofs.packet_buffer.PacketsOver.last_part_mut.Symbol.{name as #last}
use Rattle.net_packets.specs.contracts.packet_buffer.PacketsOver.enqueue.Key.{name as #self}
use denote.Struct.Declared as Declared
use Rattle.std.specs.contracts.result.Result as RS
use Rattle.net_ring.specs.contracts.error.Full as FU
use Rattle.net_packets.specs.contracts.packet_buffer.PacketsOver.place as place
use Rattle.net_packets.proofs.packet_buffer.PacketsOver.place.Met as place_met
use Rattle.net_packets.specs.contracts.packet_buffer.PacketsOver.last_part_mut as last
use Rattle.net_packets.proofs.packet_buffer.PacketsOver.last_part_mut.Met as last_met
use Rattle.net_packets.specs.contracts.packet_buffer.PacketsOver.enqueue as F
use Rattle.net_packets.proofs.packet_buffer.PacketsOver.enqueue.Statement as stated
use Rattle.net_packets.proofs.packet_buffer.PacketsOver.enqueue.Code as code

module _ (G : Given) where
  abbrev function : Fn
  function = inst_fn (args G) code.function

  abbrev ended : Ended
  ended = F.ended G.H G.N G.B G.slots G.slots_by G.bytes G.bytes_by G.drops_by

  abbrev stayed : Stays ended.signature.params ended.kept
  stayed = (
    stay_dropped (mut_ref_to (0 ∷ []) tt (plain (λ _. Self G))) no,
    (stay_dropped (plain (λ _. usize)) yes, (stay_dropped (plain (λ _. Header G)) no, tt)),
  )

module _ (G : Given) {M : Type 1} {𝓤 : Ura M} (𝓛 : Logic 𝓤) (𝓜 : Model 𝓤 𝓛.H) (𝓡 : Running 𝓤 𝓛.H 𝓜)
    (place-met : Meets 𝓛 (place.signature G.H G.N G.B G.slots G.slots_by G.bytes G.bytes_by G.drops_by)
    (𝓡.run (𝓡.env (#place (args G))))
    (place.spec G.H G.N G.B G.slots G.slots_by G.bytes G.bytes_by G.drops_by 𝓛 𝓜.mem 𝓡.returns))
    (last-met : Meets 𝓛 (last.signature G.H G.N G.B G.slots G.slots_by G.bytes G.bytes_by G.drops_by)
    (𝓡.run (𝓡.env (#last (args G))))
    (last.spec G.H G.N G.B G.slots G.slots_by G.bytes G.bytes_by G.drops_by 𝓛 𝓜.mem 𝓡.returns)) where
  open 𝓛 use {H}

  abbrev 𝓣 : MachineTables 𝓤 H 𝓜
  𝓣 = tables 𝓤 H 𝓜 𝓡 𝓡.env

  abbrev all_clauses : Clauses 𝓤 (ended G)
  all_clauses = F.clauses G.H G.N G.B G.slots G.slots_by G.bytes G.bytes_by G.drops_by 𝓛 𝓜.mem 𝓡.returns

  abbrev Place : Contract 𝓤
  Place = triple_of 𝓛 (place.signature G.H G.N G.B G.slots G.slots_by G.bytes G.bytes_by G.drops_by)
      (place.spec G.H G.N G.B G.slots G.slots_by G.bytes G.bytes_by G.drops_by 𝓛 𝓜.mem 𝓡.returns)

  abbrev Last : Contract 𝓤
  Last = triple_of 𝓛 (last.signature G.H G.N G.B G.slots G.slots_by G.bytes G.bytes_by G.drops_by)
      (last.spec G.H G.N G.B G.slots G.slots_by G.bytes G.bytes_by G.drops_by 𝓛 𝓜.mem 𝓡.returns)

  module _ (κs : Lfts 4) (qs : Shares 4) (bounds : AllOutlive 4 (ended G).signature.outlives κs) (live-in : Live G κs)
      (self : MutBor (Q G)) (n : ℕ)
      (h : G.H.Denot) (hv : Val) where
    abbrev x : Q G
    x = self.now

    -- the queue with the packet in it, if it could be placed
    abbrev y : Q G
    y = with_packet_if_room x n h

    abbrev bound : (walk_of 𝓛 (ended G) (stayed G) all_clauses).Ghost
    bound = ((κs, qs, bounds, (self, (n, (h, tt))), (mut_vals self, (vint w64 n ∷ [], (hv ∷ [], tt)))), tt)

    abbrev Post : Val → SProp 𝓤
    Post = (walk_of 𝓛 (ended G) (stayed G) all_clauses).post bound

    abbrev Part : RattleType
    Part = MutSlice (named 0) κs.0 u8

    abbrev Answer : RattleType
    Answer = RS.the_row unit FU.the_row

    abbrev mine : Q G → Fml
    mine = lent 𝓛 κs.0 (Self G) qs.0 self κs.0 self.ghost_name

    abbrev ends_as : Q G → Fml
    ends_as m = fres self.ghost_name ((Self G).coded.code m)

    abbrev follow : Q G → MutBor (List ℕ) → Fml
    follow m r = follows (Self G) (Array u8 0) self.ghost_name r.ghost_name (with_last_bytes m)

    module _ (p : ℕ × Share × GName) where
      abbrev κ' : List ℕ
      κ' = p.0 ∷ κs.0

      abbrev in_κ : κ' ⊑ κs.0
      in_κ = meet_⊑_right (p.0 ∷ []) κs.0

      abbrev to_place : Place.Ghost
      to_place = (
        (
          (κ', κs.1),
          (p.1, qs.1),
          (
            ⊑_trans κ' κs.0 κs.1.0 in_κ bounds.0,
            (⊑_trans κ' κs.0 κs.1.1.0 in_κ bounds.1.0, (⊑_trans κ' κs.0 κs.1.1.1.0 in_κ bounds.1.1.0, tt)),
          ),
          (record self { ghost_name = p.2 }, (n, (h, tt))),
          (mut_vals self, (vint w64 n ∷ [], (hv ∷ [], tt))),
        ),
        tt,
      )

    abbrev to_last : Last.Ghost
    to_last = ((κs, qs, bounds, (record self { now = y }, (n, tt)), (mut_vals self, (vint w64 n ∷ [], tt))), tt)

    -- what `last_part_mut` requires
    abbrev Sized : Type 0
    Sized = n ≡ first_size (last-of y.packets)

    -- the end at `Err`, where self ends as it was
    refuses : placement x n ≡ None →
        ent 𝓤 (sep 𝓤 (sem 𝓛 (ends_as x)) (sep 𝓤 (𝓛.A.lft κs.0 qs.0) (mean 𝓛 (others G 𝓤 κs qs))))
        (Post (live 1 (of_list (no_fields ∷ []))))
    unfolding follows_by
    refuses none =
        qed 𝓛 (‵ (ends_as x) ∷ ‵ (flft κs.0 qs.0) ∷ others G 𝓤 κs qs ∷ []) ∵
        nothing ! $ feq_i ! (List Val) (no_fields ∷ []) (no_fields ∷ []) refl $ fjoin ! $
        fpack ! (Valss []) (within (Declared.shape FU.the_type) tt (no_fields ∷ [])) tt $
        use1 𝓛 (‵ ((RS.the_row Part FU.the_row).own_val (Err (record {})) (live 1 (of_list (no_fields ∷ [])) ∷ [])))
        (err_of 𝓛 Part FU.the_row (record {}) no_fields) $
        suffices ! _ (ends_at 𝓛 (ended G) (stayed G) all_clauses bound (live 1 (of_list (no_fields ∷ [])))
        (Err (record {})) (tt, (tt, (tt, tt)))
        (tt, (tt, (tt, tt)))) $
        nothing ! $ nothing ! $ fjoin ! $ nothing ! $ fjoin ! $ nothing ! $ fjoin ! $ join ! $ move ! (2 ∷ 3 ∷ []) $
        join ! $ join ! $ frame ! $
        says_all ! (and_fact 𝓤 _ _ tt
        (and_fact 𝓤 _ _ (
          (λ _. none),
          (λ _. refl),
        ) (and_fact 𝓤 _ _ tt (and_fact 𝓤 _ _ tt (fact_i 𝓤 _ (emp 𝓤) tt))))) $ done !

    -- what the contents are, once the packet of q that came last is written
    abbrev Accepts : Q G → Type 0
    Accepts q = (ws : List ℕ) → length ws ≡ n → contents (with_last_bytes q ws) ≡ contents x ++ ((h, ws) ∷ [])

    -- the end at `Ok`, where self follows the part
    lends : (r : MutBor (List ℕ)) (w : Val) → placement x n ≢ None → Accepts y → r.now ≡ last_bytes y → length r.now ≡ n
        → ent 𝓤 (sep 𝓤 (sem 𝓛 (Part.own_val r (w ∷ [])))
        (sep 𝓤 (sem 𝓛 (follow y r)) (sep 𝓤 (𝓛.A.lft κs.0 qs.0) (mean 𝓛 (others G 𝓤 κs qs)))))
        (Post (live 0 (of_list (w ∷ []))))
    unfolding follows_by
    lends r w is_placed accepted value size =
        qed 𝓛 (‵ (Part.own_val r (w ∷ [])) ∷ ‵ (follow y r) ∷ ‵ (flft κs.0 qs.0) ∷ others G 𝓤 κs qs ∷ []) ∵
        use1 𝓛 (‵ ((RS.the_row Part FU.the_row).own_val (Ok r) (live 0 (of_list (w ∷ [])) ∷ [])))
        (ok_of 𝓛 Part FU.the_row r w) $
        suffices ! _ (ends_at 𝓛 (ended G) (stayed G) all_clauses bound (live 0 (of_list (w ∷ []))) (Ok r) (
          tt,
          (tt, (tt, tt)),
        ) (tt, (tt, (tt, tt)))) $
        nothing ! $ nothing ! $ fjoin ! $ nothing ! $ fjoin ! $ nothing ! $ fjoin ! $ join ! $ move ! (2 ∷ 3 ∷ []) $
        join ! $ join ! $ frame ! $
        says_all ! (and_fact 𝓤 _ _ accepted
        (and_fact 𝓤 _ _ ((λ f. absurd (subst T (sym f) tt)), (λ e. absurd (is_placed e))) (and_fact 𝓤 _ _ value
        (and_fact 𝓤 _ _ size (fact_i 𝓤 _ (emp 𝓤) (λ ws long. enqueue_call x n h ws is_placed long)))))) $ done !

    walk : n < 2 ^ 64 → T (has_ty (layout G.H) hv) × WT hv
        → ent 𝓤 (on_entry 𝓛 (ended G).signature κs qs bound.0.3 bound.0.4)
        (WpFn 𝓤 H 𝓣.C 𝓣.Λ (function G) (vptr self.ref_ptr.0 self.ref_ptr.1 ∷ vint w64 n ∷ hv ∷ []) Post)
    unfolding follows_by
    walk fits-n good =
        qed 𝓛 ((‵ (flft κs.0 qs.0) ⊛ others G 𝓤 κs qs) ∷ ‵
        (owns (MutRef (named 0) κs.0 (Self G) ∷ usize ∷ Header G ∷ []) bound.0.3 bound.0.4) ∷ []) ∵
        split ! $ move ! (2 ∷ []) $ fsplit ! $ move ! (1 ∷ []) $ fsplit ! $ drop ! $ fsplit ! $
        move ! (1 ∷ []) $ drop ! $
        -- [the header; self; the token; the other tokens]
        enter ! 𝓣.C 𝓣.Λ (function G) (vptr self.ref_ptr.0 self.ref_ptr.1 ∷ vint w64 n ∷ hv ∷ []) _ $
        alloc_all ! (λ l. pass_all ! refl ((tt, tt), ((tt, record { fits = fits-n }), (good, tt))) $
        let En : Env 𝓤 H = env (function G).locals l in
        let Then : After 𝓤 H = any_q
        (after_seq 𝓤 H (Wp 𝓤 H 𝓣.C 𝓣.Λ En (after 4 (function G).body) (at_return 𝓤 H En Post))
        (at_return 𝓤 H En Post)) in
        sets ! (addr ! (through ! refl (stop !))) refl (tt, tt) $ sets ! (of_opd ! (get ! refl)) refl good $
        move ! (1 ∷ 2 ∷ []) $
        use2 𝓛 (later (some (λ (p : ℕ × Share × GName). ‵ (lent 𝓛 κs.0 (Self G) qs.0 self (κ' p) p.2 x) ⊛ ‵
        (flft (κ' p) p.1) ⊛
        raw (Back 𝓛 κs.0 (Self G) qs.0 self p))))
        (lends_inside 𝓛 κs.0 (Self G) qs.0 self x) $ await ! tt $ pick ! (λ p. split3 ! $
        -- [self, lent; its token; the way back; the header; the other tokens]
        move ! (3 ∷ []) $ nothing ! $ move ! (1 ∷ 0 ∷ []) $ fjoin ! $
        owned ! usize (Is usize) (uint_Makes 𝓛 w64) n _ (refl, fits-n) $ fjoin ! $ move ! (1 ∷ 0 ∷ []) $ fjoin ! $
        move ! (1 ∷ 3 ∷ []) $ join ! $ join ! $ nothing ! $
        use1 𝓛 (raw (Asked G 𝓤 κs (emp 𝓤))) (asked G 𝓛 κs live-in (emp 𝓤)) $ move ! (1 ∷ 0 ∷ []) $
        join ! $ use1 𝓛 (raw (Place.pre (to_place p))) (id⊢ 𝓤 _) $
        calls_at ! (framed 𝓤 H 𝓜 𝓣) Place place-met (to_place p)
        (and_then ! (get ! refl) (and_then ! (get ! refl) (and_then ! (get ! refl) (no_more !)))) (λ v.
        use1 𝓛 (later (some (λ (r : Answer.Denot).
        ((‵ (flft (κ' p) p.1) ⊛ others G 𝓤 κs qs) ⊛ ‵ (Answer.own_val r (v ∷ []))) ⊛
        some (λ (ws : Q G × (Unit {0} × (Unit {0} × Unit {0}))).
        ‵ (lasts (place.ended G.H G.N G.B G.slots G.slots_by G.bytes G.bytes_by G.drops_by) (to_place p).0.0
        (to_place p).0.3 ws)
        ⊛ raw (fact 𝓤 (OnOk r (Accepts ws.0))) ⊛ raw
        (fact 𝓤 (OnOk r (contents ws.0 ≡ contents x ++ ((h, last_bytes ws.0) ∷ [])))) ⊛
        raw (fact 𝓤 (OnErr r (ws.0 ≡ x)))
        ⊛ raw (fact 𝓤 (IsErr r ↔ (placement x n ≡ None))) ⊛ raw (fact 𝓤 (ws.0 ≡ y)) ⊛ raw
        (fact 𝓤 (OnOk r (first_size (last-of ws.0.packets) ≡ n)))
        ⊛ raw (fact 𝓤 ((ws.0.slot_count ≡ x.slot_count) × (length ws.0.storage ≡ length x.storage)))
        ⊛ raw (fact 𝓤 (OnOk r (Makes (Placed h (last_bytes ws.0)) x ws.0)))))))
        (id⊢ 𝓤 (Place.post (to_place p) v)) $
        await ! tt $ pick ! (λ r. split ! $ split ! $ move ! (2 ∷ []) $
        pick ! (λ ws. split3 ! $ move ! (1 ∷ []) $ heard ! _ (λ accepts. move ! (1 ∷ []) $
        split3 ! $ heard ! _ (λ stands. heard ! _ (λ unchanged. split3 ! $
        heard ! _ (λ full. heard ! _ (λ is_y. split3 ! $
        heard ! _ (λ is_sized. heard ! _ (λ _. heard ! _ (λ _. fsplit ! $ fsplit ! $
        rewrite ! 0 (λ (m : Q G). ‵ (fres p.2 ((Self G).coded.code m))) is_y refl $ move ! (3 ∷ []) $ split ! $
        -- [the token; the other tokens; the loan's last value; its borrow; nothing; the answer; the way back]
        move ! (0 ∷ 2 ∷ 6 ∷ []) $
        use3 𝓛 (later (‵ (mine y) ⊛ ‵ (flft κs.0 qs.0))) (comes_inside 𝓛 κs.0 (Self G) qs.0 self p y) $
        await ! tt $ split ! $
        move ! (3 ∷ []) $ drop ! $ move ! (3 ∷ []) $ drop ! $
        -- [self; the token; the other tokens; the answer]
        elim (ok_or_err r) [
          | inl c ↦
              let is_placed : placement x n ≢ None = λ e. subst T (sym (subst (λ t. IsErr t) c.1 (full.1 e))) tt in
              let sizes : first_size (last-of y.packets) ≡ n = subst (λ m. first_size (last-of m.packets) ≡ n) is_y
              (subst (λ t. OnOk t (first_size (last-of ws.0.packets) ≡ n)) c.1 is_sized) in
              let accepted : Accepts y = subst Accepts is_y (subst (λ t. OnOk t (Accepts ws.0)) c.1 accepts) in
              rewrite ! 3 (λ (t : Answer.Denot). ‵ (Answer.own_val t (v ∷ []))) c.1 refl $ move ! (3 ∷ []) $
              ok_had ! unit FU.the_row c.0 v
              (λ us is_v. peeks ! unit (Is unit) (shows 𝓛 unit) c.0 us (λ is_unit. drop ! $
              lands_as ! (is_v ∙ ap (λ (l : List Val). live 0 (of_list (l ++ []))) is_unit) refl (
                tt,
                (record { fits = lit< tt }, (tt, tt)),
              ) $
              first ! $ switches_on ! (get_tag ! (vrt ! refl (fld ! refl (stop !))) (whole !)) $
              exec ! 𝓣.C 𝓣.Λ En (arm_body 0 (front (after 3 (function G).body))) Then $
              skips ! $ exec ! 𝓣.C 𝓣.Λ En (after 4 (function G).body) (at_ret En Post) $
              sets ! (addr ! (through ! refl (stop !))) refl (tt, tt) $
              nothing ! $ owned ! usize (Is usize) (uint_Makes 𝓛 w64) n _ (refl, fits-n) $ fjoin ! $
              move ! (1 ∷ 0 ∷ []) $
              fjoin ! $ move ! (1 ∷ 2 ∷ []) $ join ! $ join ! $
              use0 𝓛 (raw (fact 𝓤 Sized)) (fact_i 𝓤 _ (emp 𝓤) (sym sizes)) $
              use1 𝓛 (raw (Asked G 𝓤 κs (fact 𝓤 Sized))) (asked G 𝓛 κs live-in (fact 𝓤 Sized)) $
              move ! (1 ∷ 0 ∷ []) $ join ! $ use1 𝓛 (raw (Last.pre to_last)) (id⊢ 𝓤 _) $
              calls_at ! (framed 𝓤 H 𝓜 𝓣) Last last-met to_last
              (and_then ! (get ! refl) (and_then ! (get ! refl) (no_more !))) (λ u.
              use1 𝓛 (later (some (λ (m : MutBor (List ℕ)).
              ((‵ (flft κs.0 qs.0) ⊛ others G 𝓤 κs qs) ⊛ ‵ (Part.own_val m (u ∷ []))) ⊛
              some (λ (ws : Unit {0} × (Unit {0} × Unit {0})).
              ‵ (lasts (last.ended G.H G.N G.B G.slots G.slots_by G.bytes G.bytes_by G.drops_by)
              to_last.0.0 to_last.0.3 ws)
              ⊛ ‵ (follow y m) ⊛ raw (fact 𝓤 (m.now ≡ last_bytes y)) ⊛ raw
              (fact 𝓤 (length m.now ≡ first_size (last-of y.packets)))))))
              (id⊢ 𝓤 (Last.post to_last u)) $
              await ! tt $ pick ! (λ m. split ! $ split ! $ move ! (2 ∷ []) $
              pick ! (λ _. split3 ! $ drop ! $ move ! (1 ∷ []) $ split ! $ heard ! _ (λ value. heard ! _ (λ size.
              -- [what self follows; the tokens; the part]
              move ! (2 ∷ []) $ peeks ! Part (Is Part) (shows 𝓛 Part) m (u ∷ []) (λ ok.
              let w : Val = slice_val m.ref_ptr (length m.now) in
              let fits : length m.now < 2 ^ 64 = ok.0.1.0 in
              lands_as ! (ap only ok.0.0) refl (tt, (tt, (record { fits = fits }, tt))) $
              sets ! (agg ! (and_then ! (lit ! tt) (and_then ! (get ! refl) (no_more !)))) refl
              (tt, (record { fits = lit< tt }, ((tt, (record { fits = fits }, tt)), tt))) $
              rewrite ! 0 (λ (l : List Val). ‵ (Part.own_val m l)) ok.0.0 refl $ returns ! (look_at ! 0 refl) $
              free_all ! refl $ keep ! (0 ∷ 1 ∷ 2 ∷ []) $
              by ! (lends m w is_placed accepted value (size ∙ sizes))))))))))
          | inr c ↦
              let none : placement x n ≡ None = full.0 (subst (λ t. IsErr t) (sym c.1) refl) in
              rewrite ! 0 (λ (m : Q G). ‵ (mine m)) (ap (λ m. with_packet_if x m n h) none) refl $
              rewrite ! 3 (λ (t : Answer.Denot). ‵ (Answer.own_val t (v ∷ []))) c.1 refl $ move ! (3 ∷ []) $
              err_had ! unit FU.the_row c.0 v
              (λ us is_v. peeks ! FU.the_row (Is FU.the_row) (shows 𝓛 FU.the_row) c.0 us (λ is_error. drop ! $
              lands_as ! (is_v ∙ ap (λ (l : List Val). live 1 (of_list (l ++ []))) is_error.1.0) refl (
                tt,
                (record { fits = lit< tt }, (tt, tt)),
              ) $
              first ! $ switches_on ! (get_tag ! (vrt ! refl (fld ! refl (stop !))) (whole !)) $
              exec ! 𝓣.C 𝓣.Λ En (arm_body 1 (front (after 3 (function G).body))) Then $
              fsplit3 ! $ drop ! $ use1 𝓛 (‵ (ends_as x)) (𝓛.names.obs-res self.ghost_name ((Self G).coded.code x)) $
              -- [what self ends as; its borrow; the token; the other tokens]
              sets ! (agg ! (no_more !)) refl (tt, tt) $
              sets ! (agg ! (and_then ! (lit ! tt) (and_then ! (get ! refl) (no_more !)))) refl (
                tt,
                (record { fits = lit< tt }, (tt, tt)),
              ) $
              returns_within ! Post refl (look_at ! 0 refl) $ free_all ! refl $ keep ! (0 ∷ 2 ∷ 3 ∷ []) $
              by ! (refuses none)))
        ])))))))))))))

  module _ (z : (walk_of 𝓛 (ended G) (stayed G) all_clauses).Ghost) where
    abbrev Rs : List RattleType
    Rs = types_at (ended G).signature.params z.0.0

    abbrev Goes : Valss Rs → Type 1
    Goes vss =
        let at : (walk_of 𝓛 (ended G) (stayed G) all_clauses).Ghost = ((z.0.0, z.0.1, z.0.2, z.0.3, vss), z.1) in
        ent 𝓤 (on_entry 𝓛 (ended G).signature z.0.0 z.0.1 z.0.3 vss)
        (WpFn 𝓤 H 𝓣.C 𝓣.Λ (function G) ((walk_of 𝓛 (ended G) (stayed G) all_clauses).args at)
        ((walk_of 𝓛 (ended G) (stayed G) all_clauses).post at))

    entry : Are Rs (Ises Rs) z.0.3 z.0.4 → ent 𝓤 ((walk_of 𝓛 (ended G) (stayed G) all_clauses).pre z)
        (WpFn 𝓤 H 𝓣.C 𝓣.Λ (function G) ((walk_of 𝓛 (ended G) (stayed G) all_clauses).args z)
        ((walk_of 𝓛 (ended G) (stayed G) all_clauses).post z))
    entry are =
        let h = alone (layout G.H) z.0.4.1.1.0
        (((param_laws 0 G.H G.laws).lawful 𝓛).typed z.0.3.1.1.0 z.0.4.1.1.0 are.1.1.0) in
        lives G 𝓛 z.0.0 _ _ (λ live-in. subst Goes
        (λ i. (
          sym (mut_Tells (named 0) z.0.0.0 (Self G) z.0.3.0 z.0.4.0 are.0) i,
          (sym are.1.0.0 i, (sym h.1 i, tt)),
        ))
        (walk z.0.0 z.0.1 z.0.2 live-in z.0.3.0 z.0.3.1.0 z.0.3.1.1.0 h.0 are.1.0.1 h.2))

pub enqueue_spec : {M : Type 1} → stated.statement M
enqueue_spec 𝓤 𝓛 𝓜 𝓡 wired X Y Z LX LY LZ g gd b bd hd gm bm hm =
    let G : Given = record {
      H = X;
      N = Y;
      B = Z;
      laws = LX;
      slots = g;
      slots_by = gd;
      bytes = b;
      bytes_by =
          bd;
      drops_by = hd;
    } in
    let first = place_met.met 𝓤 𝓛 𝓜 𝓡 (code.calls-net_packets::packet_buffer::PacketsOver::place 𝓡.env wired) X Y Z LX
    LY LZ g gd b bd hd gm bm hm in
    let second = last_met.met 𝓤 𝓛 𝓜 𝓡 (code.calls-net_packets::packet_buffer::PacketsOver::last_part_mut 𝓡.env wired)
    X Y Z LX LY LZ g gd b bd hd gm bm hm in
    proved_at 𝓛 (ended G) (stayed G) (all_clauses G 𝓛 𝓜 𝓡 first second) 𝓜 𝓡 (
      Goes-spent_ref 𝓛 4 (0 ∷ []) tt (plain (λ _. Self G)),
      (
        Goes-dropped 𝓛 4 (plain (λ _. usize)) yes (λ κs x f. refl),
        (Goes-dropped 𝓛 4 (plain (λ _. Header G)) no (λ κs x f. refl), tt),
      ),
    )
    (#self (args G)) (function G) (code.unfolded 𝓤 𝓛.H 𝓜 𝓡 wired (X, (Y, (Z, tt))) gd bd hd)
    (entry G 𝓛 𝓜 𝓡 first second)
