-- The words and the lemmas of other crates, and the definitions of this one, that several proofs use.
pub use Rattle.std.proofs.Common.{sym, ◌∙◌, ap, subst, length, ◌≡◌, arith, ◌+◌, take, ◌-◌, refl, drop, ◌≤◌, ◌++◌, ℕ}
pub use Rattle.std.proofs.Common.{min, [], ◌<◌, false, List, ◌∷◌, length-drop, max, length-take, true, ◌⊎◌, ⊎_elim}
pub use Rattle.std.proofs.Common.{take_all, length-append, cond, inl, inr, nat_le, Bool, All, map, nat_lt, suc, Ok}
pub use Rattle.std.proofs.Common.{Err, zero, ◌^◌, ◌&&◌, is_some, None, ◌↔◌, ◌||◌, Some, slice_get, not, le-leb, nat_eq}
pub use Rattle.std.proofs.Common.{Result, Option, unwrap_or, append_assoc, le_trans, le_refl, get_or, IsTrue, take-add}
pub use Rattle.std.proofs.Common.{leb-true, ◌==◌, slice_range, eqb-true, append-nil, get_or-drop, get_or-take, take_at}
pub use Rattle.std.proofs.Common.{drop_at, is_ok, le-ltb, ◌*◌, filter}
pub use Rattle.net_assembler.proofs.SoundHeads.{length-runs_of, position_fits}
pub use Rattle.net_assembler.proofs.Sets.{same_positions, has, contains-positions, contains-with_range}
pub use Rattle.net_assembler.proofs.Sets.{maximal_runs-shift_up, contains-nothing, too_many, rising_unique}
pub use Rattle.net_assembler.proofs.Sets.{positions_rise, Rises, first_missing-le, first_missing-misses}
pub use Rattle.net_assembler.proofs.Sets.{first_missing-is, first_missing-has, contains-shift_down, either}
pub use Rattle.net_assembler.proofs.Sets.{contains-shift_up}
pub use Rattle.net_assembler.proofs.Joins.{no_runs, runs-nothing}
pub use Rattle.net_assembler.specs.Assembler.{makes_too_many_runs, MakesTooManyRuns}
pub use Rattle.net_assembler.specs.AssemblerLaws.{MaximalRunsOfEverySet}
pub use Rattle.net_assembler.specs.Positions.{maximal_runs, contains, Positions, with_range, runs, first_missing}
pub use Rattle.net_assembler.specs.Positions.{positions, lies_in, runs_shifted_up, IsMaximalRun, shift_up, front}
pub use Rattle.net_assembler.specs.Positions.{nothing, shift_down}
pub use Rattle.net_assembler.specs.RunLists.{set_of, IsCanonical, runs_of, HasSoundRuns, IsRising, end_at}
pub use Rattle.net_assembler.specs.declared.assembler.error.TooManyHolesError.{TooManyHolesError}
pub use Rattle.net_assembler.specs.declared.assembler.head.AssemblerHead.{AssemblerHead}
pub use Rattle.net_receiver.specs.{receiver_of, domain, Sends, next_position, piece, reported_by, Refines}
pub use Rattle.net_receiver.specs.{HasSoundParts, ReceivesFinite, verdict, sender_of, receiver_after_read, Piece}
pub use Rattle.net_receiver.specs.{Segment, receiver_after_command, receiver_with_piece, FiniteState, piece_within}
pub use Rattle.net_receiver.specs.{numbers, Read, state_after, FiniteSenderState, receiver_after_commands, IsSound}
pub use Rattle.net_receiver.specs.{beyond, finite_of, piece_byte_at, IsSoundEnd, fresh_kept, receiver_replies}
pub use Rattle.net_receiver.specs.{ReceivesFrom, HeldBytes, CommandValue, parts, sizes, SegmentReply, Fits64Bits}
pub use Rattle.net_receiver.specs.{held_with_piece, bytes_read, end, IsAccepted, MatchesStream, finite_sender_of}
pub use Rattle.net_receiver.specs.{byte_at, Show, sender_from, limit_of, receiver_reply, segment_result, setting}
pub use Rattle.net_receiver.specs.{first_lacking, sender_state, state_from, Setting, items_after, ReplyValue}
pub use Rattle.net_receiver.specs.{reply_value, EndBelow, is_held, Keeps, missing, acknowledged, contiguous_end}
pub use Rattle.net_receiver.specs.{finite_room, verdict_of_piece, KeptState, fresh_receiver, is_covered, HasRoom}
pub use Rattle.net_receiver.specs.{HasSoundFinite, end_of, held_bytes_at, receiver_up_to, new_replies, queued}
pub use Rattle.net_receiver.specs.{with_written, Arrives, with_sack, command_value, step, Refuses, run_at}
pub use Rattle.net_receiver.specs.{MatchesWhatIsThere, Reads, end_after, Verdict, MatchesFinite, CommandMatches}
pub use Rattle.net_receiver.specs.{with_bytes, Brings, below_end, has_read_all, IsSameState, can_end, contiguous_count}
pub use Rattle.net_receiver.specs.{IsSoundBoard, no_end, finite_after_read, first_three, open_room, Executes}
pub use Rattle.net_receiver.specs.{storage_after, FiniteCommand, newest_runs, board, held_bytes, acknowledged_below}
pub use Rattle.net_receiver.specs.{MatchesLonger, IsSoundHead, HasNoRoom, finite_result, is_complete, finite_after}
pub use Rattle.net_receiver.specs.{EndsBy, has_other_end, byte, Agrees, first_number, IsSoundFiniteSender, PieceAgrees}
pub use Rattle.net_receiver.specs.{IsSoundScoreboard, head_after_read, unread, ReadReply, finite_after_commands}
pub use Rattle.net_receiver.specs.{fresh_finite, fresh_finite_sender, IsNextHole, Follows, HasByteAt, command_values}
pub use Rattle.net_receiver.specs.{IsTruthful, contiguous_count_from}
pub use Rattle.net_receiver.specs.ReceiverState.{ReceiverState}
pub use Rattle.net_receiver.specs.declared.finite_sender_head.FiniteSenderHead.{FiniteSenderHead}
pub use Rattle.net_receiver.specs.declared.kept.Kept.{Kept}
pub use Rattle.net_receiver.specs.declared.kept.KeptBytes.{KeptBytes}
pub use Rattle.net_receiver.specs.declared.receiver_head.ReceiverHead.{ReceiverHead}
pub use Rattle.net_ring.proofs.RingFacts.{part_is, lent_whole}
pub use Rattle.net_ring.proofs.Rotations.{length-queue, length-overwrite, length-spare}
pub use Rattle.net_ring.specs.Overwrite.{overwrite}
pub use Rattle.net_ring.specs.Ring.{queue, spare, RingState, contiguous_allocated, with_elements_wrapping}
pub use Rattle.net_ring.specs.Ring.{index_after, with_dequeued, with_enqueued}
pub use Rattle.net_ring.specs.RingHead.{ring_at, dequeued_place}
pub use Rattle.net_ring.specs.declared.head.RingHead.{RingHead}
pub use Rattle.std.proofs.lemmas.Bool.{both_ways, cases_lt, and_parts, and_from, or_right, cond-true, or_left}
pub use Rattle.std.proofs.lemmas.Bool.{false_from_ne_true, cond-false, or_cases, ltb-true, false≢true, cond_both}
pub use Rattle.std.proofs.lemmas.Bool.{lt-ltb, cases_Bool, lt-leb, and_right, ltb-false, and_cases, not-false}
pub use Rattle.std.proofs.lemmas.Bool.Decides.{nat_tests}
pub use Rattle.std.proofs.lemmas.Grind.{common_steps}
pub use Rattle.std.proofs.lemmas.List.{take_min, drop_all, take-take, length-replicate, length-map, length-take-le}
pub use Rattle.std.proofs.lemmas.List.{drop-drop, drop_min, nil_from_length, drop-take}
pub use Rattle.std.proofs.lemmas.List.Elements.{All-tail, All-head, All-cons, All-nil, All-weaker, All-append}
pub use Rattle.std.proofs.lemmas.List.Elements.{All-take}
pub use Rattle.std.proofs.lemmas.List.FromFn.{length-map-range_with_len, length-range_with_len}
pub use Rattle.std.proofs.lemmas.List.Sums.{sum_by-cons}
pub use Rattle.std.proofs.lemmas.Option.{slice_get_within, slice_get_cases, gets, none-some}
pub use Rattle.std.specs.Cmp.{unsigned_tied, nat_cmp_total}
pub use Rattle.std.specs.Int.{from_bool}
pub use Rattle.std.specs.List.{range_with_len, list_any, find, take-map}
pub use Rattle.std.specs.Option.{option_or}
pub use Rattle.std.specs.Ordering.{nat_cmp}
pub use Rattle.std.specs.Prelude.{count_by, AllPairs, ⊤}
