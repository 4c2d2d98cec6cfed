use Rattle.mp_run.proofs.BoundLemmas.{stays_within}
use Rattle.mp_run.proofs.run.run_stream.Goals as goal

pub returns-clause-bounded : goal.returns-clause-bounded
returns-clause-bounded g c = stays_within c.args.session.now c.state.ensures.bounded
