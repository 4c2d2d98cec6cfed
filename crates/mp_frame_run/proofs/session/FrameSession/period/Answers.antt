use Rattle.std.proofs.Common.{OnOk, subst}
use Rattle.mp_model.specs.Frames.{FramedState, framed_advance}
use Rattle.mp_frame_run.specs.FrameNow.{StandsFramed}
use Rattle.mp_frame_run.specs.FrameView.{shown}
use Rattle.mp_frame_run.specs.Framed.{Framed}
use Rattle.mp_frame_run.specs.FramedView.{framed_of}
use Rattle.mp_frame_run.proofs.Accounts.{framed_either}
use Rattle.mp_frame_run.proofs.session.FrameSession.period.Goals as goal

pub returns-clause-step : goal.returns-clause-step
returns-clause-step c =
    subst (λ (s : Framed). OnOk c.frame_period.result ((now : FramedState) → StandsFramed s.net s.periods s.at s.frame now → StandsFramed s.net s.periods c.frame_period.new.state (shown c.frame_period.new.frame) (framed_advance s.net s.periods c.args.arrivals.now now)))
    c.self.view_is c.frame_period.ensures.step

pub invariant_of-self : goal.invariant_of-self
invariant_of-self c = record {
  framed = framed_either c.frame_period.result (framed_of c.self.inside) c.self.invariant.framed c.args.arrivals.now c.frame_period.new.state (shown c.frame_period.new.frame) c.frame_period.ensures.on c.frame_period.ensures.step c.frame_period.ensures.levels c.frame_period.ensures.stays c.frame_period.ensures.frame_stays;
  set = c.frame_period.ensures.set;
}
