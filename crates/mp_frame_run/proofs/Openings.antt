-- How a session by frames opens, or does not.
use Rattle.std.proofs.Common.{ℕ, Err}
use Rattle.mp_model.specs.Certificate.{Cert, Certifies}
use Rattle.mp_model.specs.Frames.{frame_network}
use Rattle.mp_model.specs.Network.{Network}
use Rattle.mp_model.specs.Slack.{IsSlack}
use Rattle.mp_flow.specs.declared.network.CalcFault.{CalcFault}
use Rattle.mp_flow.specs.declared.network.CalcFault.TheVariants as calc
use Rattle.mp_flow.specs.declared.network.Place.TheVariants as at
use Rattle.mp_drift.specs.Session.{IsAccepted}
use Rattle.mp_frame.specs.FrameBounds.{EndsAsFrames}
use Rattle.mp_frame_run.specs.Framed.{IsRefused, open_fault}

-- what a fault of the bounds says
pub bounds_refused : (net : Network) (F : ℕ) (cert : Cert) (E D : ℕ) (fault : CalcFault) → IsAccepted (frame_network net F) cert → Certifies (frame_network net F) cert → IsSlack cert E D → EndsAsFrames net F E D (Err fault) →
    IsRefused net F cert (open_fault fault)
bounds_refused net F cert E D (calc.Overflow at.Bound) accepted certifies slack ends = record { accepted = accepted; certifies = certifies; num = E; den = D; slack = slack; is = ends }
bounds_refused net F cert E D (calc.Overflow at.Room) accepted certifies slack ends = record { accepted = accepted; certifies = certifies; num = E; den = D; slack = slack; is = ends }
bounds_refused net F cert E D calc.NoMemory accepted certifies slack ends = tt
bounds_refused net F cert E D fault accepted certifies slack ends = absurd ends
