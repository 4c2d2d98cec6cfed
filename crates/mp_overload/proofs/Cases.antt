-- Worked networks that are overloaded, each number computed from the definitions.
use Rattle.std.proofs.Common.{[], ◌∷◌, pos, Some, ◌≡◌, refl, lit≤, lit<}
use Rattle.mp_laws.proofs.Cases.{refused_cases}
use Rattle.mp_model.specs.Worked.{two_approaches_at}
use Rattle.mp_num.specs.Checked.{within}
use Rattle.mp_num.specs.Operations.{times, plus, less, summed}
use Rattle.mp_num.specs.Passing.{stepped}
use Rattle.mp_overload.proofs.Trails.{run_on}
use Rattle.mp_overload.specs.Cases.{OverloadedCase, WorkedGrowths}
use Rattle.mp_overload.specs.Forming.{shared, counts_formed, split_formed, lost_formed, least_formed}

pub overloaded : OverloadedCase
overloaded = record {
  acceptable = refused_cases.five.0;
  overloaded = record { vector = record { lengths = refl; some = lit≤ tt }; above = lit< tt };
  even = refl;
  on = λ T. (run_on (two_approaches_at 5) T).on;
}

five_lost : lost_formed (two_approaches_at 5) (pos 1 ∷ pos 1 ∷ []) ≡ Some (pos 6)
unfolding lost_formed counts_formed shared split_formed times plus summed stepped within
five_lost = refl

five_least : least_formed 1000 (pos 2) (pos 6) ≡ Some (pos 1994)
unfolding least_formed times less within
five_least = refl

pub worked : WorkedGrowths
worked = record { growth_so = refl; lost_so = refl; lost_form = five_lost; least_form = five_least; critical = refl; split = refl; uneven = refl }
