use Rattle.std.proofs.Common.{[], ◌∷◌, refl, lit≤, lit<}
use Rattle.mp_model.specs.Worked.{two_approaches, two_approaches_cert, tandem, tandem_cert, roundabout, roundabout_cert}
use Rattle.mp_laws.proofs.Cases.{two_case, tandem_case, roundabout_case}
use Rattle.mp_controls.proofs.worked_bounds_one_lower.Goals as goal
use Rattle.mp_controls.proofs.Runs.{closer_bound, lower_than}

pub returns : goal.returns
returns c = record {
  two_approaches = lower_than two_approaches (20 ∷ 20 ∷ []) (24 ∷ 24 ∷ []) 4 (lit≤ tt, (lit≤ tt, tt))
      (closer_bound two_approaches two_case.acceptable.network (refl, (refl, tt)) two_approaches_cert two_case.certified 3 4 two_case.slack (20 ∷ 20 ∷ []) (record { root = 72; is_root = record { within = lit≤ tt; most = lit< tt }; are = refl }));
  tandem = lower_than tandem (9 ∷ 8 ∷ []) (10 ∷ 9 ∷ []) 1 (lit≤ tt, (lit≤ tt, tt))
      (closer_bound tandem tandem_case.acceptable.network (refl, (refl, tt)) tandem_cert tandem_case.certified 1 4 tandem_case.slack (9 ∷ 8 ∷ []) (record { root = 16; is_root = record { within = lit≤ tt; most = lit< tt }; are = refl }));
  roundabout = lower_than roundabout (13 ∷ 13 ∷ []) (14 ∷ 14 ∷ []) 1 (lit≤ tt, (lit≤ tt, tt))
      (closer_bound roundabout roundabout_case.acceptable.network (refl, (refl, tt)) roundabout_cert roundabout_case.certified 7 8 roundabout_case.slack (13 ∷ 13 ∷ []) (record { root = 96; is_root = record { within = lit≤ tt; most = lit< tt }; are = refl }));
}
