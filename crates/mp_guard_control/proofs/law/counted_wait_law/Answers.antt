use Rattle.mp_guard_control.proofs.KeptLemmas.{counts_keep}
use Rattle.mp_guard_control.proofs.law.counted_wait_law.Goals as goal

pub returns : goal.returns
returns c = counts_keep
