-- What a queue accepted and what left it, over many calls.
--     Log X      what was accepted, and what left
--     empty_log      the log before any call
--     log_accepted xs log, log_left xs log, log_dropped log      the log after more was accepted, or
--         left, or what had not left was dropped
use Rattle.std.specs.Prelude.{List, [], ◌++◌}

-- what was accepted, in order, each as it was last written while it was in the queue, and what left,
-- in order, each as it was shown when it left
pub record Log (X : Type 0) : Type 0 where
  pub accepted : List X
  pub left : List X

module _ {X : Type 0} where
  -- nothing was accepted and nothing left
  abbrev pub empty_log : Log X
  empty_log = record { accepted = []; left = [] }

  -- more was accepted
  abbrev pub log_accepted : List X → Log X → Log X
  log_accepted xs log = record { accepted = log.accepted ++ xs; left = log.left }

  -- more left
  abbrev pub log_left : List X → Log X → Log X
  log_left xs log = record { accepted = log.accepted; left = log.left ++ xs }

  -- what had not left was dropped, and counts as never accepted
  abbrev pub log_dropped : Log X → Log X
  log_dropped log = record { accepted = log.left; left = log.left }
