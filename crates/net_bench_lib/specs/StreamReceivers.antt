-- The schedules of mode stream as their receivers store them.
use Rattle.std.specs.Prelude.{ℕ, Option, refl}
use Rattle.std.specs.Coded.{Coded, code_by, coded×, coded_ℕ, coded_option}
use Rattle.net_assembler.specs.Positions.{maximal_runs}
use Rattle.net_receiver.specs.ReceiverState.{ReceiverState, fresh_receiver, next_position, domain}
use Rattle.net_receiver.specs.ReceiverState.{receiver_after_command, receiver_reply, receiver_code}
use Rattle.net_bench_lib.specs.StreamMode.{Outcome, ScheduleOps, Schedules}

-- the values that what a receiver stores is compared by
abbrev pub receiver_outcome : ReceiverState → Outcome
receiver_outcome v =
    record { read = v.read; next = next_position v; queue = v.queue; held = maximal_runs (domain v.held) }

-- a schedule as what its receiver stores
abbrev pub receiver_schedule_ops : ScheduleOps ReceiverState
receiver_schedule_ops = record {
  begun = λ w. fresh_receiver w.first w.capacity;
  step = λ w v c. (receiver_after_command w.most_runs v c, receiver_reply w.most_runs v c);
  outcome = λ w. receiver_outcome;
}

-- schedules as the tuple of what they are made of
abbrev pub schedules_code : Coded (Schedules ReceiverState)
schedules_code =
    code_by (ℕ × (ℕ × (ℕ × (ReceiverState × Option ReceiverState))))
    (coded× coded_ℕ
    (coded× coded_ℕ (coded× coded_ℕ (coded× receiver_code (coded_option receiver_code)))))
    (λ s. (s.setting.first, (s.setting.capacity, (s.setting.most_runs, (s.present, s.ended)))))
    (λ p. record {
      setting = record { first = p.0; capacity = p.1.0; most_runs = p.1.1.0 };
      present = p.1.1.1.0;
      ended = p.1.1.1.1;
    })
    (λ _. refl)
