use Rattle.mp_framed.proofs.next_part_law.Goals as goal
use Rattle.mp_framed.proofs.Parts.{next_part}

pub returns : goal.returns
returns c = next_part
