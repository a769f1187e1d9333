use Rattle.std.proofs.Common.{rules, refl}
use Rattle.net_base.proofs.storage.fragments.head.FragmentsHead.complete.Goals as goal

pub returns-clause-complete : goal.returns-clause-complete
returns-clause-complete c = λ bytes. ((λ _. (c.args.self.now.total, search rules)), λ _. refl)
