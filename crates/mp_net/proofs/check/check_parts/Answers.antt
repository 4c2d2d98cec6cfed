use Rattle.mp_net.specs.Parts.{network_of}
use Rattle.mp_net.proofs.Broken.{on_ok, not_by_rule}
use Rattle.mp_net.proofs.AcceptLaw.{accepted}
use Rattle.mp_net.proofs.AcceptConverse.{not_refused}
use Rattle.mp_net.proofs.check.check_parts.Goals as goal

pub returns-clause-acceptable : goal.returns-clause-acceptable
returns-clause-acceptable c = on_ok c.try_rules.result _ _ (accepted (network_of c.args.parts.now) c.parts_have_names.ensures) c.try_rules.ensures.ok

pub returns-clause-complete : goal.returns-clause-complete
returns-clause-complete c = λ h. not_by_rule c.try_rules.result _ c.try_rules.ensures.refused (not_refused (network_of c.args.parts.now) h)
