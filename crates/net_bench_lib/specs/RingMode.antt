-- Mode ring: a bounded queue of bytes.
--     RingModeState, fresh_ring_mode capacity      a queue of bytes and its capacity
--     RingCommand, ring_command words      what a line says, if its words are a line of the mode
--     ring_does queue command      what it does to the queue, and the reply
--     ring_rules      the rules of the mode
use Rattle.std.specs.Prelude.{ℕ, ◌-◌, min, List, [], ◌∷◌, ◌++◌, length, take, drop, codes, bytes_eq, decimal}
use Rattle.std.specs.Prelude.{if◌then◌else◌, Option, Some, None, Result, Ok, Err, option_map}
use Rattle.net_bench_lib.specs.Numeral.{number_of}
use Rattle.net_bench_lib.specs.Text.{hex_bytes, hex_text}
use Rattle.net_bench_lib.specs.Transcript.{Rules}
use Rattle.net_bench_lib.specs.declared.fault.Fault.{Fault}
use Rattle.net_bench_lib.specs.declared.fault.Fault.TheVariants as faults

-- a queue of bytes, and its capacity
pub record RingModeState : Type 0 where
  pub capacity : ℕ
  pub bytes : List ℕ

-- the mode before the first line: nothing is queued
abbrev pub fresh_ring_mode : ℕ → RingModeState
fresh_ring_mode capacity = record { capacity = capacity; bytes = [] }

-- what a line of the mode says
pub data RingCommand : Type 0 where
  Write : List ℕ → RingCommand
  Read : ℕ → RingCommand

-- `w HEX` and `r NUM`
abbrev pub ring_command : List (List ℕ) → Option RingCommand
ring_command (verb ∷ word ∷ []) =
    if bytes_eq verb (codes "w") then option_map Write (hex_bytes word)
    else if bytes_eq verb (codes "r") then option_map Read (number_of word)
    else None
ring_command _ = None

-- what a line does to the queue, and its reply
abbrev pub ring_does : RingModeState → RingCommand → RingModeState × List ℕ
-- as many bytes as there is room for join the queue
ring_does queue (Write bytes) =
    let count = min (length bytes) (queue.capacity - length queue.bytes) in (
      record queue { bytes = queue.bytes ++ take count bytes },
      codes "took " ++ decimal count ++ codes "\n",
    )
-- as many bytes as are asked for, if there are as many, leave it
ring_does queue (Read number) =
    let count = min number (length queue.bytes) in (
      record queue { bytes = drop count queue.bytes },
      codes "read " ++ hex_text (take count queue.bytes) ++ codes "\n",
    )

-- a line of the mode
abbrev pub ring_rules : Rules RingModeState
ring_rules queue words = ring_reply queue (ring_command words)
  where
    ring_reply : RingModeState → Option RingCommand → Result (RingModeState × List ℕ) Fault
    ring_reply queue (Some command) = Ok (ring_does queue command)
    ring_reply queue None = Err faults.BadCommand
