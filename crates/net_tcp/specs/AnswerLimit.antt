-- How often a segment is answered of which nothing is taken.
--     is_limited s      it may be an answer itself
--     allows l s now      whether it is answered
--     after_question l s now      the limit then
use Rattle.std.specs.Prelude.{ℤ, Bool, ◌||◌, ◌&&◌, not, nat_eq, int_le, if◌then◌else◌}
use Rattle.net_base.specs.Time.{moment_after}
use Rattle.net_tcp.specs.declared.arriving.Segment.{Segment}
use Rattle.net_tcp.specs.declared.answer_limit.AnswerLimit.{AnswerLimit}

-- it has no position, as an answer has none; or it is a SYN, which an answer to it may bring again
abbrev pub is_limited : Segment → Bool
is_limited s = s.syn || nat_eq s.len 0

abbrev pub allows : AnswerLimit → Segment → ℤ → Bool
allows l s now = not (is_limited s) || int_le l.until now

-- half a second later another one is answered, or at the clock's last moment
abbrev pub after_question : AnswerLimit → Segment → ℤ → AnswerLimit
after_question l s now =
    if is_limited s && int_le l.until now then record { until = moment_after now 500000 } else l
