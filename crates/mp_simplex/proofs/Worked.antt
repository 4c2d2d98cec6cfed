-- Worked programs, each computed from the stated calculation.
use Rattle.std.proofs.Common.{◌≡◌, [], ◌∷◌, pos, negsuc, true, Some, refl}
use Rattle.mp_num.specs.Checked.{within}
use Rattle.mp_num.specs.Divisor.{euclid, gcd_of, divisor, divided, reduced}
use Rattle.mp_num.specs.Multiple.{lcm_of}
use Rattle.mp_num.specs.Passing.{each2, each, stepped}
use Rattle.mp_num.specs.Row.{combined_entry, combined}
use Rattle.mp_simplex.specs.declared.Lp.{Lp}
use Rattle.mp_simplex.specs.declared.Optimum.{Optimum}
use Rattle.mp_simplex.specs.Checking.{product_added, dot, all_hold, has_value, checked}
use Rattle.mp_simplex.specs.Outcome.{Optimal, Ray, Limit, cost_cell, slack_cell, first_row, first_rows, denominator, primal_at, primal, ray_at, ray, numbers_over, denominator_over, maximised}
use Rattle.mp_simplex.specs.Pivoting.{entering, better, looked, leaving, choice, pivoted, turns}

-- the greatest 8x + 8y where 2x and 2y are at most 1
abbrev apart : Lp
apart = record { rows = 2; cols = 2; a = pos 2 ∷ pos 0 ∷ pos 0 ∷ pos 2 ∷ []; b = pos 1 ∷ pos 1 ∷ []; c = pos 8 ∷ pos 8 ∷ [] }

-- it is 8, at the halves 1 and 1, and by the dual 4 and 4
abbrev apart_best : Optimum
apart_best = record { primal = pos 1 ∷ pos 1 ∷ []; primal_den = pos 2; dual = pos 4 ∷ pos 4 ∷ []; dual_den = pos 1; value = record { num = pos 8; den = pos 1 }; pivots = 2 }

-- x grows without end where -x is at most 1
abbrev endless : Lp
endless = record { rows = 1; cols = 1; a = negsuc 0 ∷ []; b = pos 1 ∷ []; c = pos 1 ∷ [] }

record AreWorkedPrograms : Type 0 where
  by_two_pivots : maximised apart 2 ≡ Optimal apart_best
  checks : checked apart apart_best ≡ Some true
  by_one_pivot : maximised apart 1 ≡ Limit
  without_end : maximised endless 0 ≡ Ray (pos 1 ∷ [])

worked_programs : AreWorkedPrograms
unfolding within euclid gcd_of divisor divided reduced lcm_of each2 each stepped combined_entry combined product_added dot all_hold has_value checked cost_cell slack_cell first_row first_rows denominator primal_at primal ray_at ray numbers_over denominator_over maximised entering better looked leaving choice pivoted turns
worked_programs = record { by_two_pivots = refl; checks = refl; by_one_pivot = refl; without_end = refl }
