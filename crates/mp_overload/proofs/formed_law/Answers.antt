use Rattle.mp_overload.proofs.formed_law.Goals as goal
use Rattle.mp_overload.proofs.Forms.{forms}

pub returns : goal.returns
returns c = forms
