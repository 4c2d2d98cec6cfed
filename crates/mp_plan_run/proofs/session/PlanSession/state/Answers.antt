use Rattle.std.proofs.Common.{subst}
use Rattle.mp_plan_run.specs.Planned.{IsPlanned}
use Rattle.mp_plan_run.proofs.RunLemmas.{within}
use Rattle.mp_plan_run.proofs.session.PlanSession.state.Goals as goal

pub returns-clause-within : goal.returns-clause-within
returns-clause-within c = within c.args.self.now (subst IsPlanned c.self.view_is c.self.invariant)
