-- Where a sharper form of the bound of a plan fails.
use Rattle.std.proofs.Common.{ℕ, ◌≤◌, [], ◌∷◌, List, refl, arith, lit≤}
use Rattle.mp_laws.proofs.StartedCases.{started_acceptable}
use Rattle.mp_laws.proofs.Windows.{keeps_to}
use Rattle.mp_model.specs.Arrivals.{IsPermitted}
use Rattle.mp_model.specs.Plans.{IsPlan}
use Rattle.mp_model.specs.Worked.{two_approaches_from}
use Rattle.mp_planned.specs.Controls.{NotPlannedBoundOneLower, short_plan}

short_is : IsPlan (two_approaches_from 0 0) (1 ∷ 1 ∷ []) 1 short_plan
short_is = record {
  carry = record { some = lit≤ tt; carried = (refl, (refl, tt)) };
  cycle = lit≤ tt;
  greens = refl;
  fit = (lit≤ tt, tt);
  bounds = (refl, (refl, tt));
}

-- one vehicle in the first period, and two in the fourth
abbrev late : List (List ℕ)
late = (1 ∷ 0 ∷ []) ∷ (0 ∷ 0 ∷ []) ∷ (0 ∷ 0 ∷ []) ∷ (2 ∷ 0 ∷ []) ∷ []

late_permitted : IsPermitted (two_approaches_from 0 0) late
late_permitted = record {
  counts = (refl, (refl, (refl, (refl, tt))));
  windows = (keeps_to 4 2 1 (1 ∷ 0 ∷ 0 ∷ 2 ∷ []) (lit≤ tt, (lit≤ tt, (lit≤ tt, (lit≤ tt, tt)))), (keeps_to 4 2 1 (0 ∷ 0 ∷ 0 ∷ 0 ∷ []) (lit≤ tt, (lit≤ tt, (lit≤ tt, (lit≤ tt, tt)))), tt));
}

pub not_one_lower : NotPlannedBoundOneLower
not_one_lower law =
    let h : 4 ≤ 3 = (law (two_approaches_from 0 0) (started_acceptable 0 0 (lit≤ tt) (lit≤ tt)) (1 ∷ 1 ∷ []) 1 short_plan short_is late late_permitted).1.1.1.1.0.0 in
    absurd (omega arith)
