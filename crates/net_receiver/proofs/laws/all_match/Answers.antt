use Rattle.net_receiver.proofs.Words.{All-nil, All-cons, All-append, Segment, Read, Show, IsTruthful}
use Rattle.net_receiver.specs.{AllMatch, MatchesStream}
use Rattle.net_receiver.proofs.OneStream.{truthful_is_kept, all_match_there}
use Rattle.net_receiver.proofs.laws.all_match.Goals as goal

pub returns : goal.returns
unfolding AllMatch MatchesStream
returns c = record {
  empty = λ f x. All-nil (IsTruthful f x);
  segment = λ f x pos xs cs h all. All-cons (IsTruthful f x) (Segment pos xs) cs h all;
  read = λ f x count cs all. All-cons (IsTruthful f x) (Read count) cs tt all;
  show = λ f x cs all. All-cons (IsTruthful f x) Show cs tt all;
  both = λ f x cs ds all more. All-append (IsTruthful f x) cs ds all more;
  kept = truthful_is_kept;
  there = all_match_there;
}
