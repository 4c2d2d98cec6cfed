-- How `frames` comes to a session under the certificate of the frame network.
use Rattle.std.proofs.Common.{◌≡◌, ◌≤◌, ℕ, ℤ, List, Err, sym, ◌∙◌, ap, subst}
use Rattle.mp_model.specs.Bounds.{HasRoom}
use Rattle.mp_model.specs.Certificate.{Cert, HasLengths, Certifies}
use Rattle.mp_model.specs.Frames.{AreFrameBounds, frame_network}
use Rattle.mp_model.specs.Network.{Network}
use Rattle.mp_model.specs.NetworkRules.{IsNetwork}
use Rattle.mp_model.specs.Slack.{IsSlack}
use Rattle.mp_framed.proofs.Runs.{frame_bound_of}
use Rattle.mp_cert.proofs.CheckLaw.{complete}
use Rattle.mp_cert.specs.declared.types.CertFault.{CertFault}
use Rattle.mp_cert.specs.declared.types.CertFault.TheVariants as fault
use Rattle.mp_drift.specs.Session.{IsAccepted}
use Rattle.mp_frame.specs.FrameBounds.{FindsFrameGreatest, HoldsFrameBounds}
use Rattle.mp_frame.specs.FrameNet.{IsRefused as IsNoFrameNet}
use Rattle.mp_frame.specs.declared.fault.FrameFault.{FrameFault}
use Rattle.mp_frame.specs.declared.fault.FrameFault.TheVariants as framing
use Rattle.mp_frame_run.specs.Framed.{IsRefused}
use Rattle.mp_frame_run.specs.declared.session.FrameOpen.{FrameOpen}
use Rattle.mp_frame_run.specs.declared.session.FrameOpen.TheVariants as opening
use Rattle.mp_press.specs.Queues.{naturals}
use Rattle.mp_run.proofs.BoundLemmas.{naturals_are}
use Rattle.mp_cli.specs.Framing.{IsUnframed, IsUnopenedFrames, OpensFrames}
use Rattle.mp_cli.specs.Outcomes.{outcome_of_fault, outcome_of_framing, outcome_of_frames}
use Rattle.mp_cli.specs.Sessions.{AtGreatest}
use Rattle.mp_cli.specs.Verdicts.{OfAdmitted}
use Rattle.mp_cli.proofs.SessionLemmas.{greatest_at, has_greatest}

-- why there is no frame network
pub unframed_so : (broken : FrameFault) (net : Network) (F : ℕ) → IsNoFrameNet net F broken → IsUnframed (outcome_of_framing broken) net F
unframed_so framing.Per net F refused = refused
unframed_so (framing.Rate link) net F refused = refused
unframed_so framing.NoMemory net F refused = tt

-- why no session of frames was opened, where the certificate certifies
pub unopened_so : (broken : FrameOpen) (net : Network) (F : ℕ) (cert : Cert) → HasLengths (frame_network net F) cert → Certifies (frame_network net F) cert → IsRefused net F cert broken → IsUnopenedFrames (outcome_of_frames broken) net F cert
unopened_so (opening.Cert broken) net F cert lengths certifies refused =
    let overflow : broken ≡ fault.Overflow = complete (frame_network net F) cert lengths (Err broken) (sym refused) certifies in
    subst (λ (b : CertFault). IsUnopenedFrames (outcome_of_fault b) net F cert) (sym overflow) (refused ∙ ap Err overflow)
unopened_so opening.Bound net F cert lengths certifies refused = refused
unopened_so opening.Room net F cert lengths certifies refused = refused
unopened_so opening.NoMemory net F cert lengths certifies refused = tt

-- what is known when a session of frames is open
module _ (net : Network) (F : ℕ) (cert : Cert) (by : OfAdmitted (frame_network net F) (λ c. c ≡ cert)) where
  pub certified : Certifies (frame_network net F) cert
  certified = (has_greatest (frame_network net F) cert by).certifies

  pub frames_open : (num den : ℕ) (numbers : List ℤ) → IsNetwork net → 2 ≤ F → IsAccepted (frame_network net F) cert → IsSlack cert num den → FindsFrameGreatest net F num den → HoldsFrameBounds net F num den numbers
      → (P : ℕ → ℕ → List ℕ → Type 0) → P num den (naturals numbers) → OpensFrames net F (AtGreatest (frame_network net F) P) cert
  frames_open num den numbers ok two accepted slack found holds P is =
      let list : naturals numbers ≡ holds.bounds = ap naturals holds.listed ∙ naturals_are holds.bounds in
      let are : AreFrameBounds net F num den (naturals numbers) = subst (λ (bounds : List ℕ). AreFrameBounds net F num den bounds) (sym list) holds.are in
      record {
        checked = accepted;
        certifies = certified;
        num = num;
        den = den;
        slack = slack;
        found = found;
        holds = record {
          bounds = naturals numbers;
          are = are;
          room = subst HasRoom (sym list) holds.room;
          within = λ A permitted. frame_bound_of net ok F two cert certified num den slack (naturals numbers) are A permitted;
          is = (greatest_at (frame_network net F) cert by num den slack, is);
        };
      }
