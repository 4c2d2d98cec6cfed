use Rattle.mp_frame_run.proofs.Bounds.{stays_within}
use Rattle.mp_frame_run.proofs.run.run_frames.Goals as goal

pub returns-clause-bounded : goal.returns-clause-bounded
returns-clause-bounded g c = stays_within c.args.session.now c.state.ensures.framed
