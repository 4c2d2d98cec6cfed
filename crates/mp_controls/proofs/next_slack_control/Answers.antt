use Rattle.std.proofs.Common.{[], ◌∷◌, ap, refl, sym, lit≤, lit<}
use Rattle.mp_model.specs.Network.{entry}
use Rattle.mp_model.specs.Worked.{two_approaches}
use Rattle.mp_laws.proofs.Cases.{two_case}
use Rattle.mp_laws.proofs.SharperSplits.{apart}
use Rattle.mp_controls.proofs.next_slack_control.Goals as goal

pub returns : goal.returns
returns c law = apart 20 24 (lit< tt) (sym (ap (λ bounds. entry bounds 1) (law two_approaches 3 4 (24 ∷ 24 ∷ []) (20 ∷ 20 ∷ []) two_case.bounds_are (record { root = 75; is_root = record { within = lit≤ tt; most = lit< tt }; are = refl }))))
