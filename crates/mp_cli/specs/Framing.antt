-- What `frames` promises.
use Rattle.std.specs.Prelude.{◌≡◌, ℕ, List, Err, Ok, None, Some}
use Rattle.mp_model.specs.Arrivals.{IsPermitted}
use Rattle.mp_model.specs.Bounds.{HasRoom}
use Rattle.mp_model.specs.Certificate.{Cert, Certifies}
use Rattle.mp_model.specs.Frames.{AreFrameBounds, frame_network, framed_log}
use Rattle.mp_model.specs.Log.{text_of, header_lines}
use Rattle.mp_model.specs.Network.{Network}
use Rattle.mp_model.specs.Slack.{IsSlack, IsGreatestSlack}
use Rattle.mp_cert.specs.Checking.{check_outcome}
use Rattle.mp_cert.specs.declared.types.CertFault.TheVariants.{Overflow as PassesCheck}
use Rattle.mp_flow.specs.declared.network.Place.TheVariants as at
use Rattle.mp_frame.specs.FrameNet.{frame_fault}
use Rattle.mp_frame.specs.declared.fault.FrameFault.TheVariants.{Per, Rate}
use Rattle.mp_frame.specs.FrameBounds.{FindsFrameGreatest, HasNoFrameRoom, PassesFrameBound}
use Rattle.mp_frame_run.specs.Framed.{FramesStayWithin, IsUnbounded}
use Rattle.mp_frame_run.specs.Running.{framed_course}
use Rattle.mp_cli.specs.declared.outcome.Outcome.{Outcome}
use Rattle.mp_cli.specs.declared.outcome.Outcome.TheVariants.{LongFrames, FastFrames, Overflow, NoMemory}
use Rattle.mp_cli.specs.Opening.{OnNetwork}
use Rattle.mp_cli.specs.Ports.{Ports, RefusedOr}
use Rattle.mp_cli.specs.Sessions.{AtGreatest}
use Rattle.mp_cli.specs.Streaming.{EndsOn, OnRun, PutsLog}
use Rattle.mp_cli.specs.Verdicts.{OnAdmitted}

-- There is no frame network: its rate length is too long, or else the rate of a link is too high, of which the least is told; or memory ran out.
abbrev pub IsUnframed : Outcome → Network → ℕ → Type 0
IsUnframed LongFrames net F = frame_fault net F ≡ Some Per
IsUnframed (FastFrames link) net F = frame_fault net F ≡ Some (Rate link)
IsUnframed NoMemory net F = Unit {0}
IsUnframed outcome net F = ⊥

-- Under the slack num/den of the frame network there are bounds of frames that have room; over all permitted arrivals no queue of the framed run exceeds its bound; and the fact is true of the slack and the bounds.
pub record FramesHold (net : Network) (F num den : ℕ) (P : ℕ → ℕ → List ℕ → Type 0) : Type 0 where
  pub bounds : List ℕ
  pub are : AreFrameBounds net F num den bounds
  pub room : HasRoom bounds
  pub within : (A : List (List ℕ)) → IsPermitted net A → FramesStayWithin net F bounds A
  pub is : P num den bounds

-- The fact is true of the greatest slack of the frame network and the bounds of frames under it.
pub record FramesHoldGreatest (net : Network) (F : ℕ) (P : ℕ → ℕ → List ℕ → Type 0) : Type 0 where
  pub num : ℕ
  pub den : ℕ
  pub greatest : IsGreatestSlack (frame_network net F) num den
  pub holds : FramesHold net F num den P

-- The framed log behind the header of a slack and these bounds was put.
abbrev pub WritesFramedLog : Network → ℕ → Ports → ℕ → ℕ → List ℕ → Type 0
WritesFramedLog net F ports num den bounds = PutsLog net (framed_log net F num den bounds) ports

-- No session of frames is opened under a certificate that certifies the frame network: a calculation exceeds its limit, or memory ran out.
abbrev pub IsUnopenedFrames : Outcome → Network → ℕ → Cert → Type 0
IsUnopenedFrames (Overflow at.Certificate) net F cert = check_outcome (frame_network net F) cert ≡ Err PassesCheck
IsUnopenedFrames (Overflow at.Bound) net F cert = IsUnbounded net F cert PassesFrameBound
IsUnopenedFrames (Overflow at.Room) net F cert = IsUnbounded net F cert HasNoFrameRoom
IsUnopenedFrames NoMemory net F cert = Unit {0}
IsUnopenedFrames outcome net F cert = ⊥

-- A session of frames is opened under a certificate of the frame network: no calculation of its check or of the bounds of frames exceeds 128 bits, and the fact is true of the slack and the bounds.
pub record OpensFrames (net : Network) (F : ℕ) (P : ℕ → ℕ → List ℕ → Type 0) (cert : Cert) : Type 0 where
  pub checked : check_outcome (frame_network net F) cert ≡ Ok tt
  pub certifies : Certifies (frame_network net F) cert
  pub num : ℕ
  pub den : ℕ
  pub slack : IsSlack cert num den
  pub found : FindsFrameGreatest net F num den
  pub holds : FramesHold net F num den P

-- A command on the frame network of a network: there is none, or the fact is true.
abbrev pub OnFrameNetwork : Outcome → Network → ℕ → Ports → Type 0 → Type 0
OnFrameNetwork outcome net F ports P = RefusedOr (IsUnframed outcome net F) ports ((frame_fault net F ≡ None) × P)

-- A command by frames under a certificate: no session is opened, or the fact is true of the slack and the bounds.
abbrev pub OnFrames : Outcome → Network → ℕ → Cert → Ports → (ℕ → ℕ → List ℕ → Type 0) → Type 0
OnFrames outcome net F cert ports P = RefusedOr (IsUnopenedFrames outcome net F cert) ports (OpensFrames net F P cert)

-- The stream was run by frames to this end behind the header of the slack num/den and the bounds.
abbrev pub StreamsFrames : Outcome → Network → ℕ → Ports → ℕ → ℕ → List ℕ → Type 0
StreamsFrames outcome net F ports num den bounds = OnRun outcome (λ how. EndsOn (framed_course net F) (text_of (header_lines net num den bounds)) how ports)

-- This is what each outcome says of the run of a stream by frames under a certificate of the frame network, whose slack is the greatest.
abbrev pub FramesUnder : Outcome → Network → ℕ → Cert → Ports → Type 0
FramesUnder outcome net F cert ports = OnFrames outcome net F cert ports (AtGreatest (frame_network net F) (StreamsFrames outcome net F ports))

-- This is what each outcome says of `frames`: on the network of the file, as its frame network is admitted, under its certificate, the stream was run by frames.
abbrev pub RunsFrames : Outcome → List ℕ → ℕ → Ports → Type 0
RunsFrames outcome name F ports =
    OnNetwork outcome name ports (λ net.
    OnFrameNetwork outcome net F ports (
    OnAdmitted outcome (frame_network net F) ports (λ cert. FramesUnder outcome net F cert ports)))
