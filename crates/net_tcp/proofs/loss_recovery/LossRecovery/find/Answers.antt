use Rattle.std.proofs.Common.{ap, ◌∙◌, not, subst}
use Rattle.std.specs.Prelude.{◌&&◌, nat_lt, max}
use Rattle.net_tcp.specs.LossRecovery.{recovery_of, after_report, found, is_active, blind_lost}
use Rattle.net_receiver.specs.Scoreboards.{IsLossBound}
use Rattle.net_receiver.proofs.Scoreboards.{one_bound}
use Rattle.net_tcp.proofs.Missing.{one_end}
use Rattle.net_tcp.proofs.loss_recovery.LossRecovery.find.Goals as goal

pub returns-clause-state : goal.returns-clause-state
returns-clause-state g c = λ lost highest bound end.
    let s = g.B.Reported.set c.args.scoreboard.now in
    let r = recovery_of c.args.self.now in
    let first = c.args.numbers.first_unacknowledged in
    let sent = c.args.numbers.sent in
    let blind = blind_lost c.args.segment_size c.args.before first sent r in
    let low = subst (λ n. IsLossBound n c.args.segment_size s c.lost_below-lost.result) c.duplicates.ensures
    c.lost_below-lost.ensures in
    let same = one_bound r.duplicates c.args.segment_size s c.lost_below-lost.result lost low bound in
    let top = one_end s c.highest_reported-highest.result highest c.highest_reported-highest.ensures end in
    c.lose_found.ensures.state
    ∙ ap (λ l. after_report c.args.segment_size first sent s l c.highest_reported-highest.result r) c.max.ensures
    ∙ ap (λ b. after_report c.args.segment_size first sent s (max c.lost_below-lost.result b)
    c.highest_reported-highest.result r) c.blind_lost-blind.ensures
    ∙ ap (λ l. after_report c.args.segment_size first sent s (max l blind) c.highest_reported-highest.result r) same
    ∙ ap (λ h. after_report c.args.segment_size first sent s (max lost blind) h r) top

pub returns-clause-begins : goal.returns-clause-begins
returns-clause-begins g c = λ lost highest bound end.
    let s = g.B.Reported.set c.args.scoreboard.now in
    let r = recovery_of c.args.self.now in
    let first = c.args.numbers.first_unacknowledged in
    let sent = c.args.numbers.sent in
    let blind = blind_lost c.args.segment_size c.args.before first sent r in
    let low = subst (λ n. IsLossBound n c.args.segment_size s c.lost_below-lost.result) c.duplicates.ensures
    c.lost_below-lost.ensures in
    let same = one_bound r.duplicates c.args.segment_size s c.lost_below-lost.result lost low bound in
    let top = one_end s c.highest_reported-highest.result highest c.highest_reported-highest.ensures end in
    c.lose_found.ensures.begins
    ∙ ap (λ l. not (is_active r first) && nat_lt first (found s l c.highest_reported-highest.result r)) c.max.ensures
    ∙ ap (λ b. not (is_active r first)
    && nat_lt first (found s (max c.lost_below-lost.result b) c.highest_reported-highest.result r))
    c.blind_lost-blind.ensures
    ∙ ap (λ l. not (is_active r first) && nat_lt first (found s (max l blind) c.highest_reported-highest.result r)) same
    ∙ ap (λ h. not (is_active r first) && nat_lt first (found s (max lost blind) h r)) top
