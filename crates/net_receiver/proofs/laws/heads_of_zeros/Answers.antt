use Rattle.net_receiver.proofs.Words.{◌∙◌, length, ap, sym, subst, receiver_of, HasSoundParts, finite_of}
use Rattle.net_receiver.proofs.Words.{HasSoundFinite, reported_by, IsSoundBoard}
use Rattle.net_receiver.proofs.laws.heads_of_zeros.Goals as goal

pub returns-clause-receiver : goal.returns-clause-receiver
returns-clause-receiver c = λ xs rs.
    let made = c.new-receiver.ensures in (
      subst (λ h. HasSoundParts h (length xs) rs) made.numbers (made.sound (length xs) rs),
      ap (λ h. receiver_of h xs rs) (sym made.numbers) ∙ made.state xs rs,
    )

pub returns-clause-finite_receiver : goal.returns-clause-finite_receiver
returns-clause-finite_receiver c = λ xs rs.
    let made = c.new-finite_receiver.ensures in (
      subst (λ h. HasSoundFinite h (length xs) rs) made.numbers (made.sound (length xs) rs),
      ap (λ h. finite_of h xs rs) (sym made.numbers) ∙ made.state xs rs,
    )

pub returns-clause-scoreboard : goal.returns-clause-scoreboard
returns-clause-scoreboard c = λ rs.
    let made = c.new-scoreboard.ensures in (
      subst (λ h. IsSoundBoard h rs) made.numbers (made.sound rs),
      ap (λ h. reported_by h rs) (sym made.numbers)
          ∙ made.empty rs,
    )
