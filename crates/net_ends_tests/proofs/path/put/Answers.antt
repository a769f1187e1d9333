use Rattle.std.proofs.Common.{◌∙◌, ◌++◌, ap, sym, subst, All}
use Rattle.std.proofs.lemmas.List.Elements.{All-push}
use Rattle.net_receiver.specs.Finite.{MatchesFinite}
use Rattle.net_ends_tests.specs.Path.{IsOfText}
use Rattle.net_ends_tests.proofs.PathFacts.{put_on}
use Rattle.net_ends_tests.proofs.path.put.Goals as goal

pub returns : goal.returns
returns g c = λ text n is low before.
    let front = c.bytes-lent.result.front.now in
    let back = c.bytes-lent.result.back.now in
    let last = c.bytes-lent.result.fin in
    let match = put_on c.matches_stream.ensures.longer c.both_ends.ensures.lent text n c.args.range.start c.args.range.end
    (front ++ back) last c.args.sender.now is c.bytes-lent.ensures low in
    let items = c.in_ok-extend_from_slice.ensures.items ∙ ap (λ l. l ++ back) c.in_ok-bytes.ensures.items in
    subst (All (IsOfText text)) (sym c.push_reserved.ensures.items)
    (All-push (IsOfText text) _ _ (subst (All (IsOfText text)) (sym c.in_ok-reserve.ensures.items) before)
    (subst (λ l. MatchesFinite 0 text c.args.range.start l last) (sym items) match))
