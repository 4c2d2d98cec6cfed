use Rattle.std.proofs.Common.{◌-◌, ◌∙◌, arith, sym}
use Rattle.mp_plan_run.proofs.GreenLemmas.{greens_few}
use Rattle.mp_plan_run.proofs.HeadingLemmas.{bound_at, green_at}
use Rattle.mp_plan_run.proofs.header.push_line.Goals as goal

pub push_green-requires-clause-few : goal.push_green-requires-clause-few
push_green-requires-clause-few c = greens_few c.args.net.now c.args.plan.now c.requires.plan c.shares.ensures.acceptable (c.args.i - 2)

pub returns-then-i-junctions-clause-held : goal.returns-then-i-junctions-clause-held
returns-then-i-junctions-clause-held c =
    c.push_green.ensures.held
    ∙ sym (green_at c.args.net.now c.args.plan.now c.args.i (c.args.i - 2) (omega (arith, c.requires.known.0, c.if-i-eq1.false, c.if-i-eq2.false)) (omega (arith, c.requires.known.0, c.if-i-eq1.false, c.if-i-eq2.false))
    (omega (arith, c.if-i-junctions.true, c.from-junctions.ensures, c.junctions.ensures.count)))

pub returns-else-i-junctions-clause-held : goal.returns-else-i-junctions-clause-held
returns-else-i-junctions-clause-held c =
    let size = c.from-junctions.ensures ∙ c.junctions.ensures.count in
    c.push_bound.ensures.held
    ∙ sym (bound_at c.args.net.now c.args.plan.now c.args.i (c.args.i - 2 - c.from-junctions.result) (omega (arith, size, c.if-i-junctions.false)) (omega (arith, size, c.if-i-junctions.false)) (omega (arith, size, c.requires.known.1, c.if-i-junctions.false)))
