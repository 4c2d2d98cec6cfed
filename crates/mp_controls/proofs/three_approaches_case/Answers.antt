use Rattle.mp_controls.proofs.three_approaches_case.Goals as goal
use Rattle.mp_controls.proofs.Three.{three_case}

pub returns : goal.returns
returns c = three_case
