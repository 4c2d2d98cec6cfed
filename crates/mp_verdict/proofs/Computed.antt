-- The verdicts on the worked networks, computed.
use Rattle.std.proofs.Common.{refl}
use Rattle.mp_num.specs.Checked.{within}
use Rattle.mp_num.specs.Divisor.{euclid, gcd_of, divisor, divided, reduced}
use Rattle.mp_num.specs.Multiple.{lcm_of}
use Rattle.mp_num.specs.Passing.{each2, each, stepped}
use Rattle.mp_num.specs.Row.{combined_entry, combined}
use Rattle.mp_flow.specs.Answers.{denominator, answer_at, answers, solved}
use Rattle.mp_flow.specs.Elimination.{negated, upright, cleared, turned, turn, eliminated}
use Rattle.mp_flow.specs.Systems.{flow_cell, flow_row, flow_rows, worth_cell, worth_row, worth_rows, stated_flows, stated_worths}
use Rattle.mp_simplex.specs.Outcome.{cost_cell, slack_cell, first_row, first_rows, denominator as simplex_denominator, primal_at, primal, numbers_over, denominator_over, maximised}
use Rattle.mp_simplex.specs.Pivoting.{entering, better, looked, leaving, choice, pivoted, turns}
use Rattle.mp_verdict.specs.Game.{fraction_of, slack_alone, is_lower, tried, all_tried, is_over, slack_of, lowered, turn as game_turn, played, after_junction, game}
use Rattle.mp_verdict.specs.Mixes.{mixed, mixes, certificate_at}
use Rattle.mp_num.specs.Operations.{times, plus, less, summed}
use Rattle.mp_verdict.specs.Game.{summed_beside}
use Rattle.mp_verdict.specs.Rates.{period_unit, rate_need, unit_need, need_at, rate_row, rates_at}
use Rattle.mp_verdict.specs.Stated.{run_reached, each_reached}
use Rattle.mp_verdict.specs.Vector.{spread, link_value, link_values, vector_entry, vector_by, vector_of}
use Rattle.mp_verdict.specs.Verdict.{judged, verdict_after, verdict}
use Rattle.mp_verdict.specs.WorkedVerdicts.{AreWorkedVerdicts}

pub worked : AreWorkedVerdicts
unfolding within euclid gcd_of divisor divided reduced lcm_of each2 each stepped combined_entry combined denominator answer_at answers solved negated upright cleared turned turn eliminated flow_cell flow_row flow_rows worth_cell worth_row worth_rows stated_flows stated_worths cost_cell slack_cell first_row first_rows simplex_denominator primal_at primal numbers_over denominator_over maximised entering better looked leaving choice pivoted turns fraction_of slack_alone is_lower tried all_tried is_over slack_of lowered game_turn played after_junction game mixed mixes certificate_at times plus less summed summed_beside period_unit rate_need unit_need need_at rate_row rates_at run_reached each_reached spread link_value link_values vector_entry vector_by vector_of judged verdict_after verdict
worked = record { one = refl; queues = refl; circle = refl; four = refl; five = refl; streets = refl; sums = refl; critical_sums = refl; round = refl }
