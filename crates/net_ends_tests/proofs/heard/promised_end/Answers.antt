-- By what it knows of the window.
use Rattle.std.proofs.Common.{◌≡◌, ℕ, ◌+◌, ◌^◌, ◌<◌, ◌≤◌, ap, arith}
use Rattle.std.proofs.lemmas.Nat.{pow_pos}
use Rattle.net_tcp.specs.Windows.{empty_segment_position, shift_count}
use Rattle.net_ends.specs.Ends.{End, first, Heard}
use Rattle.net_ends.specs.Pair.{Pair, AtSender, after_step}
use Rattle.net_ends.specs.Rounds.{KnowsWindow}
use Rattle.net_ends_tests.proofs.heard.promised_end.Goals as goal

known_end : (q : Pair) (e : End) (number : ℕ) → KnowsWindow q → q.sender ≡ e →
    q.receiver.edge ≤ q.sender.sender.sent →
    number ≡ empty_segment_position e.peer (first e) e.sender.sent →
    q.receiver.edge < number + 2 ^ shift_count q.receiver.scale
known_end q e number knows same sent is =
    let edge : q.sender.peer.edge ≡ e.peer.edge = ap (λ e. e.peer.edge) same in
    let low : first q.sender ≡ first e = ap first same in
    let high : q.sender.sender.sent ≡ e.sender.sent = ap (λ e. e.sender.sent) same in
    let unit = pow_pos (shift_count q.receiver.scale) in
    omega (arith, knows, edge, low, high, sent, is, unit)

pub returns : goal.returns
returns c f x p t older s r says seq now is top newest same sent =
    known_end (after_step 4 p (AtSender (Heard s r says seq t.ack t.window now))) c.args.sender.now
    c.empty_segment_position.result (c.windows.ensures.latest 4 f x p t older s r says seq now is top newest) same sent
    c.empty_segment_position.ensures
