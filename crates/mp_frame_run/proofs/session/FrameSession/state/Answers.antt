use Rattle.std.proofs.Common.{subst}
use Rattle.mp_frame_run.specs.Framed.{Framed, HasLowQueues}
use Rattle.mp_frame_run.specs.FramedView.{framed_of}
use Rattle.mp_frame_run.proofs.Accounts.{low_queues}
use Rattle.mp_frame_run.proofs.session.FrameSession.state.Goals as goal

pub returns-clause-bounded : goal.returns-clause-bounded
returns-clause-bounded c = subst (λ (s : Framed). HasLowQueues s) c.self.view_is (low_queues (framed_of c.self.inside) c.self.invariant.framed)
