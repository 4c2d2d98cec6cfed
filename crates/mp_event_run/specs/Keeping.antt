-- What a session keeps from line to line.
use Rattle.std.specs.Prelude.{ℤ, List}
use Rattle.mp_model.specs.Network.{Network}
use Rattle.mp_num.specs.Fraction.{Fraction}
use Rattle.mp_session.specs.SessionView.{SessionView}

-- A session keeps its network, slack and bounds from line to line.
pub record Keepsake : Type 0 where
  pub net : Network
  pub slack : Fraction
  pub bounds : List ℤ

-- This is what a session keeps.
abbrev pub kept_of : SessionView → Keepsake
kept_of session = record { net = session.net; slack = session.slack; bounds = session.bounds }
