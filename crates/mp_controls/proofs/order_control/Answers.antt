use Rattle.std.proofs.Common.{[], ◌∷◌, length, ap, lit<}
use Rattle.mp_model.specs.Worked.{two_approaches}
use Rattle.mp_laws.proofs.Cases.{two_network}
use Rattle.mp_laws.proofs.SharperSplits.{apart}
use Rattle.mp_controls.proofs.order_control.Goals as goal

pub returns : goal.returns
returns c law = apart 0 1 (lit< tt) (ap length (law two_approaches (two_network 1) [] (0 ∷ 0 ∷ [])))
