-- How often a segment is answered of which nothing is taken.
--     limit_of l      the limit of these numbers
use Rattle.net_tcp.specs.declared.answer_limit.AnswerLimit.{AnswerLimit}
use Rattle.net_ffi.specs.declared.answer_limit.AnswerLimit.{AnswerLimit as Fields}

abbrev pub limit_of : Fields → AnswerLimit
limit_of l = record { until = l.until }
