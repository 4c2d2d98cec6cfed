use Rattle.mp_guard_control.proofs.KeptLemmas.{stages_keep}
use Rattle.mp_guard_control.proofs.law.controlled_law.Goals as goal

pub returns : goal.returns
returns c = stages_keep
