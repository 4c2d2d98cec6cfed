use Rattle.std.proofs.Common.{◌≡◌, Some}
use Rattle.mp_model.specs.Bounds.{start_drift}
use Rattle.mp_drift.specs.Stated.{unit_of, credit_sum, threshold_from, greatest_from}
use Rattle.mp_num.specs.Fraction.{numerator, denominator}
use Rattle.mp_drift.proofs.Finding.{reached}
use Rattle.mp_drift.proofs.queue_bounds.greatest_under.Goals as goal

pub returns-clause-found : goal.returns-clause-found
returns-clause-found c =
    let net = c.args.net.now in
    let E = numerator c.args.slack.now in
    let D = denominator c.args.slack.now in
    let t : threshold_from c.args.factor c.args.drift E D ≡ Some c.in_ok-total.total =
    cc (c.in_ok-total.ensures.value, c.excess_of.ensures.value, c.denominator_of.ensures.value) in
    let g : greatest_from (unit_of net) (credit_sum net) c.args.drift (start_drift net) c.in_ok-total.total ≡ Some c.in_ok-vmax.vmax =
    cc (c.in_ok-vmax.ensures.value, c.unit-unit.ensures.value, c.credit_sum-credits.ensures.value, c.start_drift.ensures.value) in
    reached net c.args.factor c.args.drift E D c.in_ok-total.total c.in_ok-vmax.vmax t g
