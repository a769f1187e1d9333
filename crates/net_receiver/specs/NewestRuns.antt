-- The held runs in the order in which a selective acknowledgement lists them: the newest first.
--     run_at held p      the maximal run in which p is, if p is held
--     with_run k held listed p      with the run of p after those listed, unless it is one of them
--     runs_of k held listed ps      with the runs of ps, in the order of ps
--     newest_runs k held ps      the runs of ps, each once, and then the other runs, rising; k at most
--     with_starts ps rs      the starts of these runs, in place of the first of the positions ps
--     HasOneOf ps n run      one of the first n of these positions is in the run
--     AreNewestRuns k held ps list      what is true of it, by the law `NewestRunsAreListed`
-- The order in which several calls of `newest_runs` list runs: the newest first.
--     Calls      calls, each with what is held then and a position, the last one first
--     recent_after k ps calls      what they leave of the positions ps
--     StayTogether before after      held positions of one run stay held together, or go together
--     AllStayTogether calls      they do so from each call to the next one
--     IsHeldSince calls b p      p is held at the call b calls before the last one, and at each one after it
-- The others are laws.
use Rattle.std.specs.Prelude.{◌≡◌, ◌⊎◌, ℕ, ◌<◌, ◌≤◌, if◌then◌else◌, List, [], ◌∷◌, ◌++◌, map, length, take, drop}
use Rattle.std.specs.Prelude.{slice_get, Option, Some, IsTrue, All, count_by}
use Rattle.std.specs.List.{find, list_any}
use Rattle.std.specs.Option.{option_to_list}
use Rattle.net_assembler.specs.Positions.{Positions, contains, maximal_runs, lies_in, IsMaximalRun}
use Rattle.net_receiver.specs.ReceiverState.{CommandValue, ReceiverState, IsSound, domain, receiver_after_commands}

-- the maximal run in which p is, if p is held
abbrev pub run_at : Positions → ℕ → Option (ℕ × ℕ)
run_at held p = find (lies_in p) (maximal_runs held)

-- the run of p goes after those listed, unless p is in one of them, or k are listed
abbrev pub with_run : ℕ → Positions → List (ℕ × ℕ) → ℕ → List (ℕ × ℕ)
with_run k held listed p =
    if list_any (lies_in p) listed then listed else take k (listed ++ option_to_list (run_at held p))

-- the runs of these positions go after those listed, in the order of the positions
abbrev pub runs_of : ℕ → Positions → List (ℕ × ℕ) → List ℕ → List (ℕ × ℕ)
runs_of k held listed [] = listed
runs_of k held listed (p ∷ ps) = runs_of k held (with_run k held listed p) ps

-- where the runs of a set start, rising
abbrev pub starts : Positions → List ℕ
starts held = map (λ r. r.0) (maximal_runs held)

-- the runs of these positions, in their order, and then the others, rising; each once, and k at most
abbrev pub newest_runs : ℕ → Positions → List ℕ → List (ℕ × ℕ)
newest_runs k held ps = runs_of k held (runs_of k held [] ps) (starts held)

-- the starts of these runs, in place of as many of the positions
abbrev pub with_starts : List ℕ → List (ℕ × ℕ) → List ℕ
with_starts ps rs = take (length ps) (map (λ r. r.0) rs) ++ drop (length rs) ps

-- ---- laws
-- one of the first n of these positions is in the run
abbrev pub HasOneOf : List ℕ → ℕ → ℕ × ℕ → Type 0
HasOneOf ps n run = (a : ℕ) × (p : ℕ) × (a < n) × (slice_get ps a ≡ Some p) × IsTrue (lies_in p run)

-- the run of the position p is listed, with at most b others before it
abbrev pub IsListedBy : List (ℕ × ℕ) → ℕ → ℕ → Type 0
IsListedBy list b p = (j : ℕ) × (run : ℕ × ℕ) × (j ≤ b) × (slice_get list j ≡ Some run) × IsTrue (lies_in p run)

-- the runs listed are maximal ones, k at most; no position is in two of them, and each held position is in
-- one, unless k are listed; the runs of the first k positions are listed, if these are held; and a run is
-- listed before that of one of the positions only if an earlier one of the positions is in it
pub record AreNewestRuns (k : ℕ) (held : Positions) (ps : List ℕ) (list : List (ℕ × ℕ)) : Type 0 where
  pub maximal : All (IsMaximalRun held) list
  pub few : length list ≤ k
  pub once : (p : ℕ) → count_by (lies_in p) list ≤ 1
  pub complete : (p : ℕ) → IsTrue (contains held p) → (count_by (lies_in p) list ≡ 1) ⊎ (length list ≡ k)
  pub newest : (b p : ℕ) → slice_get ps b ≡ Some p → IsTrue (contains held p) → b < k → IsListedBy list b p
  pub order : (i j b p : ℕ) (q r : ℕ × ℕ) → i < j → slice_get list i ≡ Some q → slice_get list j ≡ Some r →
      slice_get ps b ≡ Some p → IsTrue (lies_in p r) → HasOneOf ps b q

-- `newest_runs` lists them
abbrev pub NewestRunsAreListed : Type 0
NewestRunsAreListed = (k : ℕ) (held : Positions) (ps : List ℕ) → AreNewestRuns k held ps (newest_runs k held ps)

-- ---- The order in which several calls of `newest_runs` list runs: the newest first.
-- calls, each with what is held then and a position, the last one first
abbrev pub Calls : Type 0
Calls = List (Positions × ℕ)

-- the positions that they leave of ps
abbrev pub recent_after : ℕ → List ℕ → Calls → List ℕ
recent_after k ps [] = ps
recent_after k ps (call ∷ calls) =
    with_starts (recent_after k ps calls) (newest_runs k call.0 (call.1 ∷ recent_after k ps calls))

-- if one position of a run is held afterwards, so are all of that run
abbrev pub StayTogether : Positions → Positions → Type 0
StayTogether before after = (run : ℕ × ℕ) (p q : ℕ) → IsMaximalRun before run →
    IsTrue (lies_in p run) → IsTrue (lies_in q run) → IsTrue (contains after p) → IsTrue (contains after q)

-- this is true from each call to the next one
abbrev pub AllStayTogether : Calls → Type 0
AllStayTogether [] = Unit {0}
AllStayTogether (call ∷ []) = Unit {0}
AllStayTogether (call ∷ before ∷ calls) = StayTogether before.0 call.0 × AllStayTogether (before ∷ calls)

-- the position is held at the call b calls before the last one, and at each one after it
abbrev pub IsHeldSince : Calls → ℕ → ℕ → Type 0
IsHeldSince calls b p =
    (a : ℕ) (call : Positions × ℕ) → a ≤ b → slice_get calls a ≡ Some call → IsTrue (contains call.0 p)

-- ---- laws
-- the last call lists the run of the position asked for b calls before, if it has been held since and neither
-- k nor the length of ps is less; and before it only runs of positions that were asked for later. So what is
-- listed is in the order of RFC 2018, section 4
abbrev pub NewestAreFirst : Type 0
NewestAreFirst = (k b : ℕ) (ps : List ℕ) (last call : Positions × ℕ) (calls : Calls) → AllStayTogether (last ∷ calls) →
    b < k → b ≤ length ps → slice_get (last ∷ calls) b ≡ Some call → IsHeldSince (last ∷ calls) b call.1 →
    let list = newest_runs k last.0 (last.1 ∷ recent_after k ps calls) in
    IsListedBy list b call.1
    × ((i j : ℕ) (q r : ℕ × ℕ) → i < j → slice_get list i ≡ Some q → slice_get list j ≡ Some r →
    IsTrue (lies_in call.1 r) → HasOneOf (map (λ c. c.1) (last ∷ calls)) b q)

-- what a receiver holds stays together, whatever commands it executes
abbrev pub HeldStayTogether : Type 0
HeldStayTogether = (most_runs : ℕ) (v : ReceiverState) (cs : List CommandValue) → IsSound most_runs v →
    StayTogether (domain v.held) (domain (receiver_after_commands most_runs v cs).held)
