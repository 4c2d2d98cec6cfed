use Rattle.mp_guard.proofs.CheckLemmas.{accepts}
use Rattle.mp_guard.proofs.checking.check.Goals as goal

pub returns-clause-accepts : goal.returns-clause-accepts
returns-clause-accepts c = accepts c.args.net.now c.args.guard.now c.requires c.try_rules.result c.try_rules.ensures
