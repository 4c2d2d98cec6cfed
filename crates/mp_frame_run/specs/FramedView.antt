-- What a session by frames shows, and what its type keeps.
use Rattle.mp_frame_run.specs.FrameView.{shown, IsSet}
use Rattle.mp_frame_run.specs.Framed.{Framed, IsFramed}
use Rattle.mp_frame_run.specs.declared.session.FrameSession.TheInside.{Inside}

-- A session shows its network, the periods of a frame, its slack and bounds, where its run stands, and its frame.
abbrev pub framed_of : Inside → Framed
framed_of s = record {
  net = s.net.now;
  periods = s.f;
  slack = s.slack;
  bounds = s.bound;
  at = s.state;
  frame = shown s.frame;
}

-- A session keeps its bounds, and its frame is set for the next period.
pub record IsSession (s : Inside) : Type 0 where
  pub framed : IsFramed (framed_of s)
  pub set : IsSet s.net.now s.f s.state s.frame
