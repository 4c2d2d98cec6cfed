use Rattle.std.proofs.Common.{[]}
use Rattle.mp_plan_run.proofs.session.PlanSession.open.Goals as goal

pub invariant_of-result : goal.invariant_of-result
invariant_of-result c = record {
  acceptable = c.shares.ensures.acceptable;
  plan = c.requires;
  on = c.in-Ok.ensures.on;
  run = record { arrivals = []; behind = record { stands = c.in-Ok.ensures.opening; taken = c.in-Ok.ensures.taken } };
}
