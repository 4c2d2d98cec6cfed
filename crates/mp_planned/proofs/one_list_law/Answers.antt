use Rattle.mp_planned.proofs.one_list_law.Goals as goal
use Rattle.mp_planned.proofs.Chains.{one_list_of}

pub returns : goal.returns
returns c = one_list_of
