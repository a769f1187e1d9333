-- What an acknowledgement, the timer's end and a segment that is sent do to a sending end: which positions count as
-- reported, and which recovery is left. n is how many runs have room, s what was reported, ack the number that is
-- acknowledged, bs the blocks, r the recovery.
--     is_taken n sent s block      whether a block's positions count as reported
--     with_block, is_new      what it leaves, and whether it reports what wasn't known
--     after_block, after_blocks      both, after a block and after several
--     reported_by      both, after an acknowledgement
--     has_block bs, is_duplicated ack bs      whether a block has a position, and the first one reports what came twice
--     numbers_of sender, unsent_of sender s r      its numbers, and how much is lost and wasn't sent again
--     answer_of      what an acknowledgement answers
--     with_twice at bs r      the recovery, told that the first block came twice
--     doubted, answered, lost_by      the recovery, told what came twice and what is answered; below which position all
--         is lost
--     IsLeft, Recovers      the recovery that is left, and whether it begins
--     is_sought, begins_by, after_wait, loses_nothing, expiry_of      what the timer's end does, and means
--     after_segment      the recovery once a range is sent
use Rattle.std.specs.Prelude.{◌≡◌, ℕ, ℤ, ◌+◌, ◌-◌, ◌^◌, max, Bool, false, not, ◌&&◌, ◌||◌, nat_lt, nat_le}
use Rattle.std.specs.Prelude.{IsTrue, IsFalse, if◌then◌else◌, List, [], ◌∷◌, slice_get, fold}
use Rattle.std.specs.List.{list_any}
use Rattle.std.specs.declared.ops.Range.{Range}
use Rattle.net_assembler.specs.Assembler.{makes_too_many_runs}
use Rattle.net_assembler.specs.Positions.{Positions, first_missing, front, with_range}
use Rattle.net_receiver.specs.declared.sent_numbers.SentNumbers.{SentNumbers}
use Rattle.net_receiver.specs.Scoreboards.{beyond, IsLossBound, IsEnd}
use Rattle.net_tcp.specs.LossRecovery.{is_active, unsent_lost, is_equal_acknowledgement, is_duplicate_block}
use Rattle.net_tcp.specs.LossRecovery.{after_answer, after_report, after_silence, blind_lost, found, begun}
use Rattle.net_tcp.specs.LossRecovery.{after_copies, after_probe, after_sending, after_stall, Recovery as LossRecovery}
use Rattle.net_tcp.specs.declared.loss_recovery.Answer.{Answer}
use Rattle.net_tcp.specs.Retransmission.{has_ended}
use Rattle.net_ends.specs.declared.sending_end.Expired.{Expired}
use Rattle.net_ends.specs.declared.sending_end.Expired.TheVariants.{No, Overdue, Probe, Lost}
use Rattle.net_receiver.specs.FiniteSender.{FiniteSenderState, first_number}
use Rattle.net_ends.specs.Rules.{seeks, nothing_lost}
use Rattle.net_ends.specs.Ends.{known, End, is_overdue, has_dropped}

-- ---- blocks
-- it begins above the first position that isn't reported, and has positions, which were sent and end less than 2 ^ 32
-- above that one; and what is reported beyond that one has no more than n runs then
abbrev pub is_taken : ℕ → ℕ → Positions → Range ℕ → Bool
is_taken n sent s b =
    nat_lt (front s) b.start && nat_lt b.start b.end && nat_le b.end sent && nat_lt b.end (front s + 2 ^ 32)
    && not (makes_too_many_runs n (beyond s) b.start (b.end - b.start))

abbrev pub with_block : ℕ → ℕ → Positions → Range ℕ → Positions
with_block n sent s b = if is_taken n sent s b then with_range s b.start (b.end - b.start) else s

abbrev pub is_new : ℕ → ℕ → Positions → Range ℕ → Bool
is_new n sent s b = is_taken n sent s b && nat_lt (first_missing s b.start) b.end

-- what is reported, and whether one of the blocks so far reports what wasn't known
abbrev pub after_block : ℕ → ℕ → Positions × Bool → Range ℕ → Positions × Bool
after_block n sent h b = (with_block n sent h.0 b, h.1 || is_new n sent h.0 b)

abbrev pub after_blocks : ℕ → ℕ → Positions → List (Range ℕ) → Positions × Bool
after_blocks n sent s bs = fold (after_block n sent) (s, false) bs

-- all below ack is reported first
abbrev pub reported_by : ℕ → ℕ → Positions → ℕ → List (Range ℕ) → Positions × Bool
reported_by n sent s ack bs = after_blocks n sent (with_range s 0 ack) bs

abbrev pub has_block : List (Range ℕ) → Bool
has_block bs = list_any (λ b. nat_lt b.start b.end) bs

abbrev pub is_duplicated : ℕ → List (Range ℕ) → Bool
is_duplicated ack [] = false
is_duplicated ack (b ∷ bs) = is_duplicate_block ack b (slice_get bs 0)

-- ---- the recovery
abbrev pub numbers_of : FiniteSenderState → SentNumbers
numbers_of s = record { first_unacknowledged = first_number s; sent = s.sent }

abbrev pub unsent_at : ℕ → Positions → LossRecovery → ℕ
unsent_at low s r = if is_active r low then unsent_lost r low s else 0

abbrev pub unsent_of : FiniteSenderState → Positions → LossRecovery → ℕ
unsent_of sender s r = unsent_at (first_number sender) s r

-- with the numbers before it: whether a block `says` what wasn't known, and the segment only `repeats`, that is, has no
-- byte and no FIN, and announces the window that was announced last
abbrev pub answer_of : SentNumbers → ℕ → ℕ → List (Range ℕ) → Bool → Bool → Answer
answer_of at unsent ack bs says repeats = record {
  before = record { first = at.first_unacknowledged; unsent = unsent };
  reports = says;
  is_equal = is_equal_acknowledgement at.first_unacknowledged at.sent ack (repeats && not (has_block bs));
}

-- the first block came twice
abbrev pub with_twice : SentNumbers → List (Range ℕ) → LossRecovery → LossRecovery
with_twice at [] r = r
with_twice at (b ∷ bs) r = after_copies at.first_unacknowledged at.sent b.start b.end r

abbrev pub doubted : SentNumbers → ℕ → List (Range ℕ) → LossRecovery → LossRecovery
doubted at ack bs r = if is_duplicated ack bs then with_twice at bs r else r

abbrev pub answered : ℕ → ℕ → ℕ → Answer → Positions → LossRecovery → LossRecovery
answered size ack sent a s r =
    after_answer size a.before.first ack sent a.reports a.is_equal a.before.unsent s r

-- by the scoreboard's bound, or by what is heard of a peer that reports nothing
abbrev pub lost_by : ℕ → ℕ → ℕ → Answer → ℕ → LossRecovery → ℕ
lost_by size ack sent a lost r = max lost (blind_lost size a.before.first ack sent r)

-- where the peer has dropped what it reported, all below the highest reported position is lost; else what is found
pub record IsLeft (size ack sent : ℕ) (a : Answer) (s : Positions) (r left : LossRecovery) (begins : Bool) : Type 0
  where
    pub dropped : IsTrue (has_dropped s ack sent) → (highest : ℕ) → IsEnd s highest →
        left ≡ begun ack sent (max r.lost highest) r
    pub dropped_begins : IsTrue (has_dropped s ack sent) → begins ≡ not (is_active r ack)
    pub searched : IsFalse (has_dropped s ack sent) → (lost highest : ℕ) →
        IsLossBound (answered size ack sent a s r).duplicates size s lost → IsEnd s highest →
        left ≡ after_report size ack sent s (lost_by size ack sent a lost (answered size ack sent a s r)) highest
        (answered size ack sent a s r)
    pub searched_begins : IsFalse (has_dropped s ack sent) → (lost highest : ℕ) →
        IsLossBound (answered size ack sent a s r).duplicates size s lost → IsEnd s highest →
        begins ≡ (not (is_active (answered size ack sent a s r) ack)
        && nat_lt ack (found s (lost_by size ack sent a lost (answered size ack sent a s r)) highest
        (answered size ack sent a s r)))

-- with the numbers, what was unsent, what was reported and the recovery before the acknowledgement
abbrev pub Recovers : ℕ → ℕ → SentNumbers → ℕ → Positions → LossRecovery → ℕ → List (Range ℕ) → Bool → Bool →
    LossRecovery → Bool → Type 0
Recovers n size at unsent s r ack bs repeats says left begins =
    IsLeft size ack at.sent (answer_of at unsent ack bs says repeats) (reported_by n at.sent s ack bs).0
    (doubted at ack bs r) left begins

-- ---- silence
-- what is overdue is sought, where the timer's probe is due: the peer reports, and its window isn't shut
abbrev pub is_sought : End → Bool
is_sought e = seeks (known e)

-- where nothing was reported for two round trips
abbrev pub after_wait : Bool → SentNumbers → ℕ → LossRecovery → LossRecovery
after_wait sought at highest r = if sought then after_silence at.first_unacknowledged at.sent highest r else r

abbrev pub begins_by : SentNumbers → ℕ → LossRecovery → Bool
begins_by at highest r = not (is_active r at.first_unacknowledged) && nat_lt at.first_unacknowledged highest

-- the peer's window is shut, or nothing is in flight
abbrev pub loses_nothing : End → Bool
loses_nothing e = nothing_lost (known e)

abbrev pub expiry_of : End → ℤ → ℕ → Expired
expiry_of e now highest =
    if is_overdue e now
    then (if has_ended e.timer now then (if loses_nothing e then Probe else Lost)
    else Overdue (is_sought e && begins_by (numbers_of e.sender) highest e.recovery))
    else No

-- ---- a segment
-- of a shut window it is lost, since the peer drops it; else it may be a probe for an answer
abbrev pub after_segment : SentNumbers → ℕ → ℕ → Bool → Bool → LossRecovery → LossRecovery
after_segment at from to asks probe r =
    if asks then after_stall at.first_unacknowledged (max at.sent to) r
    else (if probe then after_probe at.first_unacknowledged at.sent from to r
    else after_sending at.first_unacknowledged at.sent from to r)
