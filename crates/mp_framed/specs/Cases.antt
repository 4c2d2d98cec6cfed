-- A worked network that meets the premises of the frame bound.
use Rattle.std.specs.Prelude.{[], ◌∷◌, pos}
use Rattle.mp_model.specs.Arrivals.{IsPermitted}
use Rattle.mp_model.specs.Certificate.{Cert, Certifies}
use Rattle.mp_model.specs.Frames.{AreFrameBounds, frame_network}
use Rattle.mp_model.specs.NetworkRules.{IsAcceptable}
use Rattle.mp_model.specs.Slack.{IsGreatestSlack, IsSlack}
use Rattle.mp_model.specs.Worked.{two_approaches_from}

-- By frames of three periods, this certificate has the greatest slack of two approaches, 5/8.
abbrev pub framed_cert : Cert
framed_cert = record { d = pos 8; e = pos 5; h = pos 8 ∷ pos 8 ∷ []; mixes = record { whole = pos 1; parts = pos 4 ∷ pos 4 ∷ [] } ∷ [] }

-- Two approaches on which 60 and 30 vehicles stand at the start have, by frames of three periods, that certificate and bounds of 73, and these arrivals are permitted.
pub record FramedCase : Type 0 where
  pub acceptable : IsAcceptable (two_approaches_from 60 30)
  pub certified : Certifies (frame_network (two_approaches_from 60 30) 3) framed_cert
  pub slack : IsSlack framed_cert 5 8
  pub greatest : IsGreatestSlack (frame_network (two_approaches_from 60 30) 3) 5 8
  pub bounds_are : AreFrameBounds (two_approaches_from 60 30) 3 5 8 (73 ∷ 73 ∷ [])
  pub permitted : IsPermitted (two_approaches_from 60 30) ((2 ∷ 0 ∷ []) ∷ (0 ∷ 0 ∷ []) ∷ (0 ∷ 0 ∷ []) ∷ (1 ∷ 0 ∷ []) ∷ [])
