-- What a session by frames makes of a stream.
use Rattle.std.specs.Prelude.{ℕ, List, [], Option}
use Rattle.mp_model.specs.Frames.{framed_after, framed_lines_from, framed_opening}
use Rattle.mp_model.specs.Log.{end_line}
use Rattle.mp_model.specs.Network.{Network}
use Rattle.mp_model.specs.Stream.{LineKind, arrivals_of_kinds}
use Rattle.mp_run.specs.Running.{nowhere}
use Rattle.mp_step.specs.Standing.{Standing}
use Rattle.mp_step.specs.Taken.{HasTaken}
use Rattle.mp_stream.specs.Arrivals.{arrivals_course, stream_end}
use Rattle.mp_stream.specs.Course.{Course}
use Rattle.mp_stream.specs.Ends as stream
use Rattle.mp_stream.specs.declared.arrivals.AboveBucket.{AboveBucket}
use Rattle.mp_stream.specs.declared.arrivals.ArrivalsEnd.{ArrivalsEnd}
use Rattle.mp_frame_run.specs.FrameNow.{FrameNow, StandsFramed}
use Rattle.mp_frame_run.specs.Framed.{Framed}

-- The course of a session by frames of F periods: it writes the lines of the framed run over the arrivals.
abbrev pub framed_course : Network → ℕ → Course AboveBucket
framed_course net F = arrivals_course net (framed_lines_from net F (framed_opening net)) (λ A. end_line net (framed_after net F (framed_opening net) A).state)

-- The arrivals of lines of these kinds lead a run by frames from the opening to where it stands.
pub record IsBehind (net : Network) (F : ℕ) (st : Standing) (frame : FrameNow) (kinds : List LineKind) : Type 0 where
  pub stands : StandsFramed net F st frame (framed_after net F (framed_opening net) (arrivals_of_kinds kinds))
  pub taken : HasTaken net st (arrivals_of_kinds kinds)

-- A session by frames stands at its opening: behind no line.
abbrev pub IsAtOpening : Framed → Type 0
IsAtOpening s = IsBehind s.net s.periods s.at s.frame []

-- No frame is kept here.
abbrev pub no_frame : FrameNow
no_frame = record { first = []; stages = []; before = [] }

-- A session by frames keeps all but where its run stands and its frame.
abbrev pub kept_of : Framed → Framed
kept_of session = record session { at = nowhere; frame = no_frame }

-- This is what each end of a run by frames says, where a head stands before its text.
abbrev pub EndsAs : Network → ℕ → List ℕ → ArrivalsEnd → Option (List ℕ) → Option (List ℕ) → Option (List ℕ) → Option (List ℕ) → Type 0
EndsAs net F head how whole left was now = stream.EndsAs (framed_course net F) head (stream_end how) whole left was now
