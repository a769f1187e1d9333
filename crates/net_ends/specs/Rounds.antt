-- What both ends of a pair know in the end: histories in which a segment comes, is answered, and the answer is heard.
--     IsOfStream f x v      what arrives by the step is of the stream x, which begins at f
--     IsCarried f x p v, AreCarried N f x p vs      so it is, and each step is of an honest path
--     IsReached N f x p      such a history leads to the pair
--     KnowsWindow p      the sending end knows where the promised window ends, but for less than a unit of the scale
--     told_since N p vs      what the receiving end says in some steps
--     HasFirst p pos xs last      a segment has the first number that isn't acknowledged
--     Round, steps_of u, steps us      a segment comes, and later an acknowledgement is heard; the steps of one, and of
--         several
--     IsRound N p u, AreRounds N p us      the segment has the first number that isn't acknowledged, there is room for
--         it, and the acknowledgement was said after it came
use Rattle.std.specs.Prelude.{◌≡◌, ℕ, ℤ, ◌+◌, ◌^◌, ◌<◌, ◌≤◌, max, Bool, Option, List, [], ◌∷◌, ◌++◌, length}
use Rattle.std.specs.Int.{from_bool}
use Rattle.net_assembler.specs.Positions.{Positions}
use Rattle.net_tcp.specs.Windows.{shift_count}
use Rattle.net_tcp.specs.LossRecovery.{Recovery as LossRecovery}
use Rattle.net_receiver.specs.Finite.{MatchesFinite, no_end}
use Rattle.net_ends.specs.Ends.{End, first, Heard}
use Rattle.net_ends.specs.Receiving.{Receiving, Arrived}
use Rattle.net_ends.specs.Pair.{Pair, Told, Step, AtSender, AtReceiver, begun, told_by, after_step, after_steps}
use Rattle.net_ends.specs.Pair.{WasTold, IsHonest}

-- ---- histories
-- a segment that arrives is of the stream, which has a number after its end
abbrev pub IsOfStream : ℕ → List ℕ → Step → Type 0
IsOfStream f x (AtReceiver (Arrived pos xs last d)) = MatchesFinite f x pos xs last × (pos + length xs ≤ f + length x)
IsOfStream f x _ = Unit {0}

abbrev pub IsCarried : ℕ → List ℕ → Pair → Step → Type 0
IsCarried f x p v = IsHonest p v × IsOfStream f x v

abbrev pub AreCarried : ℕ → ℕ → List ℕ → Pair → List Step → Type 0
AreCarried most_runs f x p [] = Unit {0}
AreCarried most_runs f x p (v ∷ vs) = IsCarried f x p v × AreCarried most_runs f x (after_step most_runs p v) vs

-- both ends begin with nothing on the way
pub record IsReached (most_runs f : ℕ) (x : List ℕ) (p : Pair) : Type 0 where
  pub e : End
  pub r : Receiving
  pub scale : ℕ
  pub seq : ℕ
  pub size : ℕ
  pub reports : Bool
  pub now : ℤ
  pub vs : List Step
  pub begins : first e ≡ f
  pub none : e.sender.sent ≡ f
  pub fits : f + length x < no_end
  pub carried : AreCarried most_runs f x (begun e r scale seq size reports now) vs
  pub pair : p ≡ after_steps most_runs (begun e r scale seq size reports now) vs

-- ---- the window
-- below the first number that isn't acknowledged nothing is sent
abbrev pub KnowsWindow : Pair → Type 0
KnowsWindow p = p.receiver.edge < max p.sender.peer.edge (first p.sender) + 2 ^ shift_count p.receiver.scale

abbrev pub told_at : Pair → Step → List Told
told_at p (AtSender v) = []
told_at p (AtReceiver u) = told_by p.receiver u

abbrev pub told_since : ℕ → Pair → List Step → List Told
told_since most_runs p [] = []
told_since most_runs p (v ∷ vs) = told_since most_runs (after_step most_runs p v) vs ++ told_at p v

-- ---- rounds
pub record HasFirst (p : Pair) (pos : ℕ) (xs : List ℕ) (last : Bool) : Type 0 where
  pub from : pos ≤ first p.sender
  pub to : first p.sender < pos + length xs + from_bool last

pub record Round : Type 0 where
  pub before : List Step
  pub pos : ℕ
  pub xs : List ℕ
  pub last : Bool
  pub d : Option (ℕ × ℕ)
  pub between : List Step
  pub s : Positions
  pub r : LossRecovery
  pub says : Bool
  pub seq : ℕ
  pub ack : ℕ
  pub window : ℕ
  pub now : ℤ

abbrev pub comes : Round → Step
comes u = AtReceiver (Arrived u.pos u.xs u.last u.d)

abbrev pub hears : Round → Step
hears u = AtSender (Heard u.s u.r u.says u.seq u.ack u.window u.now)

abbrev pub after_come : ℕ → Pair → Round → Pair
after_come most_runs p u = after_step most_runs (after_steps most_runs p u.before) (comes u)

abbrev pub after_of : Round → List Step
after_of u = comes u ∷ (u.between ++ (hears u ∷ []))

abbrev pub steps_of : Round → List Step
steps_of u = u.before ++ after_of u

abbrev pub steps : List Round → List Step
steps [] = []
steps (u ∷ us) = steps_of u ++ steps us

-- whatever else happens before the segment comes, and before the acknowledgement is heard
pub record IsRound (most_runs : ℕ) (p : Pair) (u : Round) : Type 0 where
  pub has_first : HasFirst p u.pos u.xs u.last
  pub room : first p.sender < (after_steps most_runs p u.before).receiver.edge
  pub said : WasTold (told_since most_runs (after_come most_runs p u) u.between) u.ack u.window

abbrev pub AreRounds : ℕ → Pair → List Round → Type 0
AreRounds most_runs p [] = Unit {0}
AreRounds most_runs p (u ∷ us) = IsRound most_runs p u × AreRounds most_runs (after_steps most_runs p (steps_of u)) us
