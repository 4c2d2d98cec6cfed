use Rattle.std.proofs.Common.{lit<}
use Rattle.mp_model.specs.Worked.{two_approaches}
use Rattle.mp_laws.proofs.Cases.{two_network}
use Rattle.mp_laws.proofs.SharperSplits.{apart}
use Rattle.mp_controls.proofs.link_split_control.Goals as goal

pub returns : goal.returns
returns c law = apart 1 2 (lit< tt) (law two_approaches (two_network 1)).0.sums
