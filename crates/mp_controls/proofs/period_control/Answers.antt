use Rattle.std.proofs.Common.{◌≤◌, [], ◌∷◌, arith, lit≤, lit<}
use Rattle.mp_model.specs.Run.{opening}
use Rattle.mp_model.specs.Worked.{two_approaches, tandem, roundabout}
use Rattle.mp_laws.proofs.Cases.{two_network, tandem_case, roundabout_acceptable}
use Rattle.mp_laws.proofs.SharperSplits.{apart}
use Rattle.mp_controls.proofs.period_control.Goals as goal

pub returns : goal.returns
returns c = record {
  falls = λ law. let h : 2 ≤ 1 = (law two_approaches (two_network 1) (0 ∷ 0 ∷ []) (λ l. 1) (lit≤ tt, (lit≤ tt, tt))).0 in absurd (omega arith);
  rises = λ law. let h : 1 ≤ 0 = (law tandem tandem_case.acceptable.network (0 ∷ []) (λ l. 0) (lit≤ tt, (lit≤ tt, tt))).1.0 in absurd (omega arith);
  phase = λ law. apart 0 1 (lit< tt) (law roundabout roundabout_acceptable.network (0 ∷ []) (opening roundabout)).0;
  queue = λ law. apart 0 1 (lit< tt) (law two_approaches (two_network 1) (0 ∷ 0 ∷ []) (opening two_approaches)).0;
}
