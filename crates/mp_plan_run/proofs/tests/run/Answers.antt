use Rattle.std.proofs.Common.{◌≡◌, rules, subst, sym}
use Rattle.mp_model.specs.Network.{Network}
use Rattle.mp_model.specs.Run.{opening}
use Rattle.mp_step.specs.Standing.{Stands}
use Rattle.mp_plan_run.proofs.tests.run.Goals as goal

pub run_plan-requires-clause-start : goal.run_plan-requires-clause-start
run_plan-requires-clause-start g c =
    let at = c.expect-session.result.at in
    let on : c.expect-session.result.net ≡ c.args.net.now = search rules in
    let stands : Stands c.args.net.now at (opening c.args.net.now) = search rules in
    subst (λ (net : Network). Stands net at (opening net)) (sym on) stands
