use Rattle.std.proofs.Common.{◌≡◌, ◌-◌, length, get_or, ap, ◌∙◌, arith}
use Rattle.mp_model.specs.Bounds.{greatest_change}
use Rattle.mp_drift.proofs.Limits.{limits, change_few}
use Rattle.mp_drift.proofs.Loops.{value_at, value_count}
use Rattle.mp_drift.proofs.terms.change_at.Goals as goal

pub bounds-changes-from : goal.bounds-changes-from
bounds-changes-from c = let size = value_count (greatest_change c.args.net.now) _ c.args.changes.now c.requires.changes in omega (arith, size)

pub returns-clause-value : goal.returns-clause-value
returns-clause-value c =
    let net = c.args.net.now in
    let place : c.from.result ≡ c.args.k = c.from.ensures in
    ap (λ i. get_or c.args.changes.now (i - 1) 0) place ∙ value_at (greatest_change net) (length net.movements) c.args.k 0 c.args.changes.now c.requires.changes c.requires.known.0 c.requires.known.1

pub returns-clause-few : goal.returns-clause-few
returns-clause-few c = omega (arith, returns-clause-value c, change_few c.args.net.now c.args.k (limits c.args.net.now c.args.k c.shares-shares.ensures.acceptable c.requires.known.0 c.requires.known.1))
