use Rattle.std.proofs.Common.{◌≡◌, ◌-◌, length, get_or, ap, ◌∙◌, arith}
use Rattle.mp_drift.specs.Flows.{flow_into}
use Rattle.mp_drift.proofs.Limits.{flow_into_few}
use Rattle.mp_drift.proofs.Loops.{value_at, value_count}
use Rattle.mp_drift.proofs.terms.flow_at.Goals as goal

pub bounds-into-from : goal.bounds-into-from
bounds-into-from c = let size = value_count (flow_into c.args.net.now) _ c.args.into.now c.requires.sums in omega (arith, size)

pub returns-clause-value : goal.returns-clause-value
returns-clause-value c =
    let net = c.args.net.now in
    let place : c.from.result ≡ c.args.l = c.from.ensures in
    ap (λ i. get_or c.args.into.now (i - 1) 0) place ∙ value_at (flow_into net) (length net.links) c.args.l 0 c.args.into.now c.requires.sums c.requires.known.0 c.requires.known.1

pub returns-clause-few : goal.returns-clause-few
returns-clause-few c = omega (arith, returns-clause-value c, flow_into_few c.args.net.now c.shares-shares.ensures.acceptable c.args.l)
