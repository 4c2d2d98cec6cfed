-- The finder on the worked networks, computed.
use Rattle.std.proofs.Common.{refl}
use Rattle.mp_num.specs.Checked.{within}
use Rattle.mp_num.specs.Divisor.{euclid, gcd_of, divisor, divided, reduced}
use Rattle.mp_num.specs.Multiple.{lcm_of}
use Rattle.mp_num.specs.Passing.{each2, each, stepped}
use Rattle.mp_num.specs.Row.{combined_entry, combined}
use Rattle.mp_simplex.specs.Outcome.{cost_cell, slack_cell, first_row, first_rows, denominator, primal_at, primal, numbers_over, denominator_over, maximised}
use Rattle.mp_simplex.specs.Pivoting.{entering, better, looked, leaving, choice, pivoted, turns}
use Rattle.mp_trial.specs.Sweeps.{swept_rate, swept, rates_after, is_last_after, sweeps_before_last}
use Rattle.mp_trial.specs.Trials.{is_above_whole, served_by, trial}
use Rattle.mp_finder.specs.Finding.{found_by}
use Rattle.mp_finder.specs.Greens.{green_for, lowered_at, raised_for, wanted}
use Rattle.mp_finder.specs.WorkedGuards.{AreWorkedGuards}

pub worked : AreWorkedGuards
unfolding within euclid gcd_of divisor divided reduced lcm_of each2 each stepped combined_entry combined cost_cell slack_cell first_row first_rows denominator primal_at primal numbers_over denominator_over maximised entering better looked leaving choice pivoted turns swept_rate swept rates_after is_last_after sweeps_before_last is_above_whole served_by trial found_by green_for lowered_at raised_for wanted
worked = record { four = refl; losing = refl; three = refl; one = refl; at_capacity = refl; twelve = refl; above = refl; queues = refl; circle = refl }
