-- What receivers store in mode stream represents the states of schedules, line by line.
use Rattle.std.proofs.Common.{◌≡◌, ℕ, [], ◌∷◌, cond, true, false, Option, Some, None, Ok, Err, refl, ◌∙◌, ap, subst}
use Rattle.net_receiver.specs.Headline.{Setting, KeptState, CommandValue, Segment, Read, Show, queue, step}
use Rattle.net_receiver.specs.Headline.{replies_from, state_from}
use Rattle.net_receiver.specs.ReceiverState.{Verdict, KeepsNone, Refuses, Keeps, state_after}
use Rattle.net_receiver.specs.ReceiverState.{ReceiverState, receiver_after_command, receiver_reply, setting, Refines}
use Rattle.net_receiver.specs.Execution.{FreshRefines, EverySchedule}
use Rattle.net_bench_lib.specs.Transcript.{transcript}
use Rattle.net_bench_lib.specs.StreamMode.{StreamCommand, ToReceiver, NextSchedule, end_fits, stream_command}
use Rattle.net_bench_lib.specs.StreamMode.{reply_text, comparison, kept_outcome, kept_schedule_ops, Schedules}
use Rattle.net_bench_lib.specs.StreamMode.{first_schedule, after_command, stream_does, stream_replies, stream_rules}
use Rattle.net_bench_lib.specs.StreamMode.{comparison_with, stream_closing}
use Rattle.net_bench_lib.specs.StreamReceivers.{receiver_outcome, receiver_schedule_ops}
use Rattle.net_bench_lib.specs.declared.fault.Fault.TheVariants as faults
use Rattle.net_bench_lib.proofs.SameText.{AlikeAfter, TreatsAlike, same_transcript}

-- what is stored represents a state, in this setting
record RefinesIn (w : Setting) (v : ReceiverState) (s : KeptState) : Type 0 where
  setting : setting w.most_runs v ≡ w
  state : Refines v s

-- of schedules that ended
abbrev EndedAlike : Setting → Option ReceiverState → Option KeptState → Type 0
EndedAlike w None None = Unit {0}
EndedAlike w (Some v) (Some s) = RefinesIn w v s
EndedAlike w _ _ = ⊥

record Alike (x : Schedules ReceiverState) (y : Schedules KeptState) : Type 0 where
  setting : x.setting ≡ y.setting
  present : RefinesIn y.setting x.present y.present
  ended : EndedAlike y.setting x.ended y.ended

-- no command changes the setting
verdict_setting : (most : ℕ) (v : ReceiverState) (verdict : Verdict) →
    setting most (state_after v verdict) ≡ setting most v
verdict_setting most v KeepsNone = refl
verdict_setting most v Refuses = refl
verdict_setting most v (Keeps part) = refl

command_setting : (most : ℕ) (v : ReceiverState) (c : CommandValue) →
    setting most (receiver_after_command most v c) ≡ setting most v
command_setting most v (Segment position bytes) = verdict_setting most v _
command_setting most v (Read count) = refl
command_setting most v Show = refl

module _ (fresh_refines : FreshRefines) (every : EverySchedule) where
  after_refines : (w : Setting) (v : ReceiverState) (s : KeptState) (c : CommandValue) → RefinesIn w v s →
      RefinesIn w (receiver_after_command w.most_runs v c) (step w s c).0
  unfolding state_from
  after_refines w v s c h = record {
    setting = command_setting w.most_runs v c ∙ h.setting;
    state = subst (λ u. Refines (receiver_after_command w.most_runs v c) (step u s c).0) h.setting
        (every w.most_runs v s h.state (c ∷ [])).0;
  }

  same_reply : (w : Setting) (v : ReceiverState) (s : KeptState) (c : CommandValue) → RefinesIn w v s →
      receiver_reply w.most_runs v c ≡ (step w s c).1
  unfolding replies_from
  same_reply w v s c h =
      let there : receiver_reply w.most_runs v c ∷ [] ≡ (step (setting w.most_runs v) s c).1 ∷ [] =
      (every w.most_runs v s h.state (c ∷ [])).1 in
      let here : receiver_reply w.most_runs v c ≡ (step (setting w.most_runs v) s c).1 = cc in
      here ∙ ap (λ u. (step u s c).1) h.setting

  same_outcome_there : (w : Setting) (v : ReceiverState) (s : KeptState) → RefinesIn w v s →
      receiver_outcome v ≡ kept_outcome w s
  same_outcome_there w v s h =
      let shown = same_reply w v s Show h in
      let next_is : (receiver_outcome v).next ≡ (kept_outcome w s).next = cc in
      let held_is : (receiver_outcome v).held ≡ (kept_outcome w s).held = cc in
      let queue_is : v.queue ≡ queue w s = h.state.queue ∙ ap (λ u. queue u s) h.setting in
      λ i. record { read = h.state.read i; next = next_is i; queue = queue_is i; held = held_is i }

  -- first schedules
  begun_alike : (w : Setting) → RefinesIn w (receiver_schedule_ops.begun w) (kept_schedule_ops.begun w)
  begun_alike w = record { setting = refl; state = fresh_refines w.first w.capacity }

  -- a line, where both settings are one
  module _ (w : Setting) (v : ReceiverState) (s : KeptState) (present : RefinesIn w v s) where
    does_alike : (o : Option ReceiverState) (p : Option KeptState) → EndedAlike w o p → (c : StreamCommand) →
        AlikeAfter Alike (stream_does receiver_schedule_ops (record { setting = w; present = v; ended = o }) c)
        (stream_does kept_schedule_ops (record { setting = w; present = s; ended = p }) c)
    does_alike None None ended NextSchedule =
        (record { setting = refl; present = begun_alike w; ended = present }, refl)
    does_alike (Some u) (Some t) ended NextSchedule = refl
    does_alike None (Some t) ended c = absurd ended
    does_alike (Some u) None ended c = absurd ended
    does_alike o p ended (ToReceiver c) =
        elim (end_fits c) as (λ fits. AlikeAfter Alike (cond fits
        (Ok (after_command receiver_schedule_ops (record { setting = w; present = v; ended = o }) c))
        (Err faults.RangeTooLong)) (cond fits (Ok (after_command kept_schedule_ops
        (record { setting = w; present = s; ended = p }) c)) (Err faults.RangeTooLong))) [
          | true ↦ (
            record { setting = refl; present = after_refines w v s c present; ended = ended },
            ap reply_text (same_reply w v s c present),
          )
          | false ↦ refl
        ]

    replies_alike : (o : Option ReceiverState) (p : Option KeptState) → EndedAlike w o p → (c : Option StreamCommand) →
        AlikeAfter Alike (stream_replies receiver_schedule_ops (record { setting = w; present = v; ended = o }) c)
        (stream_replies kept_schedule_ops (record { setting = w; present = s; ended = p }) c)
    replies_alike o p ended (Some c) = does_alike o p ended c
    replies_alike o p ended None = refl

    compared_alike : (o : Option ReceiverState) (p : Option KeptState) → EndedAlike w o p →
        comparison_with receiver_schedule_ops (record { setting = w; present = v; ended = o }) o
        ≡ comparison_with kept_schedule_ops
        (record { setting = w; present = s; ended = p }) p
    compared_alike None None ended = refl
    compared_alike (Some u) (Some t) ended =
        λ i. comparison (same_outcome_there w u t ended i) (same_outcome_there w v s present i)
    compared_alike _ _ ended = absurd ended

  one_setting : (x : Schedules ReceiverState) (y : Schedules KeptState) → Alike x y →
      x ≡ record x { setting = y.setting }
  one_setting x y a = λ i. record x { setting = a.setting i }

  lines_alike : TreatsAlike Alike (stream_rules receiver_schedule_ops) (stream_rules kept_schedule_ops)
  lines_alike x y words a =
      rw (one_setting x y a) (replies_alike y.setting x.present y.present a.present x.ended y.ended a.ended
      (stream_command words))

  closings_alike : (x : Schedules ReceiverState) (y : Schedules KeptState) → Alike x y →
      stream_closing receiver_schedule_ops x ≡ stream_closing kept_schedule_ops y
  closings_alike x y a = rw (one_setting x y a)
      (compared_alike y.setting x.present y.present a.present x.ended y.ended a.ended)

  -- what is written for what is stored is what is written for the schedules' states
  pub receiver_transcript : (w : Setting) →
      transcript (stream_rules receiver_schedule_ops) (stream_closing receiver_schedule_ops)
      1 (first_schedule receiver_schedule_ops w)
      ≡ transcript (stream_rules kept_schedule_ops) (stream_closing kept_schedule_ops) 1
      (first_schedule kept_schedule_ops w)
  receiver_transcript w =
      same_transcript Alike (stream_rules receiver_schedule_ops) (stream_rules kept_schedule_ops) lines_alike
      (stream_closing receiver_schedule_ops) (stream_closing kept_schedule_ops) closings_alike
      1 (first_schedule receiver_schedule_ops w) (first_schedule kept_schedule_ops w)
      (record { setting = refl; present = begun_alike w; ended = tt })
