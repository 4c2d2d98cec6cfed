use Rattle.mp_guard_run.proofs.Bounded.{keeps_waits, stays_within}
use Rattle.mp_guard_run.proofs.run.run_guarded.Goals as goal

pub returns-clause-bounded : goal.returns-clause-bounded
returns-clause-bounded g c = stays_within c.args.session.now c.state.ensures.guarding c.requires.opening.bounds

pub returns-clause-waits : goal.returns-clause-waits
returns-clause-waits g c = keeps_waits c.args.session.now c.state.ensures.guarding c.requires.opening.waits
