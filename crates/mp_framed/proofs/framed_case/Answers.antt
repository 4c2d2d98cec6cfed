use Rattle.mp_framed.proofs.framed_case.Goals as goal
use Rattle.mp_framed.proofs.Cases.{framed_case}

pub returns : goal.returns
returns c = framed_case
