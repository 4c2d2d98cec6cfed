-- When a command must do what was asked.
use Rattle.std.specs.Prelude.{◌≡◌, ◌≤◌, ◌⊎◌, ℕ, ℤ, List, [], length, Option, Result, None, Some, Ok}
use Rattle.mp_edge.specs.Outside.{file_named}
use Rattle.mp_model.specs.Arrivals.{IsPermitted}
use Rattle.mp_model.specs.Bounds.{AreBounds}
use Rattle.mp_model.specs.Certificate.{Cert}
use Rattle.mp_model.specs.ControlLog.{InputLine}
use Rattle.mp_model.specs.Frames.{frame_network}
use Rattle.mp_model.specs.Guard as model
use Rattle.mp_model.specs.Load.{ShowsOverload, IsTight}
use Rattle.mp_model.specs.Network.{Network}
use Rattle.mp_model.specs.Slack.{IsSlack, IsGreatestSlack}
use Rattle.mp_model.specs.Stream.{LineKind, arrivals_of_kinds}
use Rattle.mp_model.specs.StreamEnd.{stream_end}
use Rattle.mp_model.specs.StreamEnd.StreamEnd.{ended, above_in}
use Rattle.mp_model.specs.declared.limits.TheConstants.{MOST_FILE_BYTES, MOST_LINES}
use Rattle.mp_cert.specs.Checking.{check_outcome}
use Rattle.mp_cert.specs.TextMeaning.{cert_meaning, vector_meaning}
use Rattle.mp_cert.specs.Weighing.{weighed}
use Rattle.mp_control.specs.Controlling as control
use Rattle.mp_frame.specs.FrameBounds.{HasNoFrameRoom, PassesFrameBound}
use Rattle.mp_frame.specs.FrameNet.{frame_fault}
use Rattle.mp_finder.specs.Finding.{finding, Guarded}
use Rattle.mp_gen.specs.DemoNetwork.{demo_network}
use Rattle.mp_guard.specs.Bursts.{ComeToRest, bounds_of, waits_of}
use Rattle.mp_guard.specs.GuardHeader.{guard_header}
use Rattle.mp_guard.specs.GuardText.{guard_meaning}
use Rattle.mp_event_audit.specs.RenewedLog.{IsWholeRenewedLog}
use Rattle.mp_guard_audit.specs.GuardedLog.{IsWholeGuardedLog}
use Rattle.mp_netfile.specs.Meaning.{file_meaning}
use Rattle.mp_num.specs.Fraction.{Fraction}
use Rattle.mp_plan.specs.Made.{IsRefused}
use Rattle.mp_plan.specs.declared.fault.PlanFault.TheVariants as planning
use Rattle.mp_run.specs.Running.{StartsWith, IsAboveAt}
use Rattle.mp_trial.specs.Search.{scaled, Found}
use Rattle.mp_verdict.specs.Stated.{Reached}
use Rattle.mp_verdict.specs.Verdict.{verdict, Admitted}
use Rattle.mp_verdict.specs.Verdict as judged
use Rattle.mp_overload.specs.Evens.{uneven_link}
use Rattle.mp_cli.specs.Commands.{Command, Run, RunWith, Show, Certify, Check, Refute, Audit, AuditWith, Control, Demo, Scale, Overload, Frames, Plan, Guard, ControlGuard, RunGuard, AuditGuard, Unknown}
use Rattle.mp_cli.specs.Overloading.{IsTold}
use Rattle.mp_cli.specs.Ports.{Files}
use Rattle.mp_cli.specs.Refuting.{IsFormed}
use Rattle.mp_cli.specs.Sessions.{HasBounds}
use Rattle.mp_press.specs.Queues.{naturals}

-- The files are told, one has that name, its bytes mean a value, and the fact is true of it.
pub record IsGoodFile {X E : Type 0} (meaning : List ℕ → Result X E) (files : Files) (name : List ℕ) (P : X → Type 0) : Type 0 where
  pub all : List (List ℕ × List ℕ)
  pub told : files ≡ Some all
  pub bytes : List ℕ
  pub there : file_named all name ≡ Some bytes
  pub value : X
  pub means : meaning bytes ≡ Ok value
  pub is : P value

-- The files are told, and one has that name and at most 1,048,576 bytes, which mean a value of which the fact is true.
pub record IsGoodText {X E : Type 0} (meaning : List ℕ → Result X E) (files : Files) (name : List ℕ) (P : X → Type 0) : Type 0 where
  pub file : IsGoodFile meaning files name P
  pub few : length file.bytes ≤ MOST_FILE_BYTES

-- The input is told, has at most 2^48 lines, each of them skipped or of arrivals, and these arrivals are permitted.
pub record IsGoodStream (net : Network) (left : Option (List ℕ)) : Type 0 where
  pub text : List ℕ
  pub told : left ≡ Some text
  pub kinds : List LineKind
  pub lines : StartsWith net text kinds []
  pub few : length kinds ≤ MOST_LINES
  pub permitted : IsPermitted net (arrivals_of_kinds kinds)

-- The input is told, and is above a bucket at one of its first 2^48 lines.
pub record IsExcessiveStream (net : Network) (left : Option (List ℕ)) : Type 0 where
  pub text : List ℕ
  pub told : left ≡ Some text
  pub line : ℕ
  pub few : line ≤ MOST_LINES
  pub period : ℕ
  pub link : ℕ
  pub above : IsAboveAt net text line period link

-- The input is told, and as a stream of hearings, decisions and arrivals it is read to its end.
pub record IsWholeStream (net : Network) (left : Option (List ℕ)) : Type 0 where
  pub text : List ℕ
  pub told : left ≡ Some text
  pub ends : stream_end net text ≡ ended

-- The input is told, and as a stream of hearings, decisions and arrivals it ends above a bucket.
pub record IsStreamAbove (net : Network) (left : Option (List ℕ)) : Type 0 where
  pub text : List ℕ
  pub told : left ≡ Some text
  pub line : ℕ
  pub period : ℕ
  pub link : ℕ
  pub ends : stream_end net text ≡ above_in line period link

-- The input is told, and is a whole log of the network with the slack that the fact is true of and the bounds under it.
pub record IsGoodLog (net : Network) (P : ℕ → ℕ → Type 0) (left : Option (List ℕ)) : Type 0 where
  pub text : List ℕ
  pub told : left ≡ Some text
  pub whole : (num den : ℕ) (bounds : List ℕ) → P num den → AreBounds net num den bounds → IsWholeRenewedLog net num den bounds text

-- The input is told, and is a whole log under the guard, with the bounds by the bursts that come to rest.
pub record IsGoodGuardedLog (net : Network) (guard : model.Guard) (left : Option (List ℕ)) : Type 0 where
  pub text : List ℕ
  pub told : left ≡ Some text
  pub whole : (rest : ComeToRest net guard) → IsWholeGuardedLog net guard (guard_header net guard (bounds_of net guard rest.surpluses rest.bursts) (waits_of net guard)) text

-- The input is told, and has at most 2^48 lines, each of them skipped or of counts.
pub record IsGoodInput (net : Network) (left : Option (List ℕ)) : Type 0 where
  pub text : List ℕ
  pub told : left ≡ Some text
  pub lines : List InputLine
  pub all : control.StartsWith net text lines []
  pub few : length lines ≤ MOST_LINES

-- No calculation of the check of a certificate or of its bounds exceeds 128 bits, the certificate keeps all rules, and there is room for the bounds.
pub record IsRunnableCert (net : Network) (cert : Cert) : Type 0 where
  pub checked : check_outcome net cert ≡ Ok tt
  pub bounds : HasBounds net cert

-- No calculation of the sums of a vector exceeds 128 bits, and it shows an overload or is tight.
pub record IsGoodVector (net : Network) (p : List ℤ) : Type 0 where
  pub formed : IsFormed net p
  pub shows : ShowsOverload net (naturals p) ⊎ IsTight net (naturals p)

-- The stated calculation of the verdict admits the network: nothing exceeds 128 bits, and the greatest slack is above 0.
pub record IsAdmittable (net : Network) : Type 0 where
  pub cert : Cert
  pub vector : List ℤ
  pub slack : Fraction
  pub reached : verdict net (weighed net) ≡ Reached (Admitted cert vector slack)

-- The stated calculation of the verdict finds the network overloaded, no fed link is uneven, and nothing that is told of its growth exceeds 128 bits.
pub record IsGrowing (net : Network) : Type 0 where
  pub vector : List ℤ
  pub reached : verdict net (weighed net) ≡ Reached (judged.Overloaded vector)
  pub even : uneven_link net ≡ None
  pub told : IsTold net vector

-- The stated calculation finds a guard, and its bursts come to rest.
pub record IsGuardable (net : Network) (cycle lost d : ℕ) : Type 0 where
  pub guard : model.Guard
  pub reached : finding net cycle lost d ≡ Guarded guard
  pub rest : ComeToRest net guard

-- The network is admitted, and a stream can be run under its certificate.
pub record IsRunnable (net : Network) : Type 0 where
  pub admitted : IsAdmittable net
  pub under : IsRunnableCert net admitted.cert

-- No calculation of the check of a certificate of the frame network or of the bounds of frames exceeds 128 bits, the certificate keeps all rules, and there is room for the bounds.
pub record IsRunnableFramesCert (net : Network) (F : ℕ) (cert : Cert) : Type 0 where
  pub checked : check_outcome (frame_network net F) cert ≡ Ok tt
  pub found : (num den : ℕ) → IsSlack cert num den → ¬ PassesFrameBound net F num den
  pub room : (num den : ℕ) → IsSlack cert num den → ¬ HasNoFrameRoom net F num den

-- There is a frame network, it is admitted, and a stream can be run by frames under its certificate.
pub record IsRunnableByFrames (net : Network) (F : ℕ) : Type 0 where
  pub framed : frame_fault net F ≡ None
  pub admitted : IsAdmittable (frame_network net F)
  pub under : IsRunnableFramesCert net F admitted.cert

-- A plan of this cycle can be made: no link is on a cycle of movements, all greens fit into the cycle, and no calculation exceeds its limit.
pub record IsPlannable (net : Network) (C : ℕ) : Type 0 where
  pub acyclic : (link : ℕ) → ¬ IsRefused net C (planning.Cycle link)
  pub flows : ¬ IsRefused net C planning.Flow
  pub fits : (junction : ℕ) → ¬ IsRefused net C (planning.Full junction)
  pub found : ¬ IsRefused net C planning.Overflow

-- The files of a command are good, a stream can be run, and the fact is true of the network.
abbrev pub CanRun : Command → Files → (Network → Type 0) → Type 0
CanRun (Run net) files P = IsGoodFile file_meaning files net (λ n. IsRunnable n × P n)
CanRun (RunWith net cert) files P = IsGoodFile file_meaning files net (λ n. IsGoodText (cert_meaning n) files cert (IsRunnableCert n) × P n)
CanRun (Frames net F) files P = IsGoodFile file_meaning files net (λ n. IsRunnableByFrames n F × P n)
CanRun (Plan net C) files P = IsGoodFile file_meaning files net (λ n. IsPlannable n C × P n)
CanRun (RunGuard net guard) files P = IsGoodFile file_meaning files net (λ n. IsGoodText (guard_meaning n) files guard (λ g. model.Guards n g × ComeToRest n g) × P n)
CanRun command files P = ⊥

-- The files of a command are good, and so is what is to come from the input.
abbrev pub IsGood : Command → Files → Option (List ℕ) → Type 0
IsGood (Run net) files left = CanRun (Run net) files (λ n. IsGoodStream n left ⊎ IsWholeStream n left)
IsGood (RunWith net cert) files left = CanRun (RunWith net cert) files (λ n. IsGoodStream n left ⊎ IsWholeStream n left)
IsGood (Show net) files left = IsGoodFile file_meaning files net (λ n. Unit {0})
IsGood (Certify net) files left = IsGoodFile file_meaning files net IsAdmittable
IsGood (Check net cert) files left = IsGoodFile file_meaning files net (λ n. IsGoodText (cert_meaning n) files cert (λ c. check_outcome n c ≡ Ok tt))
IsGood (Refute net vector) files left = IsGoodFile file_meaning files net (λ n. IsGoodText (vector_meaning n) files vector (IsGoodVector n))
IsGood (Audit net) files left = IsGoodFile file_meaning files net (λ n. IsRunnable n × IsGoodLog n (IsGreatestSlack n) left)
IsGood (AuditWith net cert) files left = IsGoodFile file_meaning files net (λ n. IsGoodText (cert_meaning n) files cert (λ c. IsRunnableCert n c × IsGoodLog n (IsSlack c) left))
IsGood (Control net) files left = IsGoodFile file_meaning files net (λ n. IsGoodInput n left)
IsGood (Demo n) files left = IsRunnable (demo_network n)
IsGood (Scale net d) files left = IsGoodFile file_meaning files net (λ n. (cert : Cert) × (scaled n d ≡ Found cert))
IsGood (Overload net) files left = IsGoodFile file_meaning files net IsGrowing
IsGood (Frames net F) files left = CanRun (Frames net F) files (λ n. IsGoodStream n left)
IsGood (Plan net C) files left = CanRun (Plan net C) files (λ n. IsGoodStream n left)
IsGood (Guard net cycle lost d) files left = IsGoodFile file_meaning files net (λ n. IsGuardable n cycle lost d)
IsGood (ControlGuard net guard) files left = IsGoodFile file_meaning files net (λ n. IsGoodText (guard_meaning n) files guard (λ g. model.Guards n g × ComeToRest n g) × IsGoodInput n left)
IsGood (RunGuard net guard) files left = CanRun (RunGuard net guard) files (λ n. IsGoodStream n left)
IsGood (AuditGuard net guard) files left = IsGoodFile file_meaning files net (λ n. IsGoodText (guard_meaning n) files guard (λ g. (model.Guards n g × ComeToRest n g) × IsGoodGuardedLog n g left))
IsGood Unknown files left = ⊥

-- The files of a command are good, and the stream is above a bucket.
abbrev pub IsExcessive : Command → Files → Option (List ℕ) → Type 0
IsExcessive (Run net) files left = CanRun (Run net) files (λ n. IsExcessiveStream n left ⊎ IsStreamAbove n left)
IsExcessive (RunWith net cert) files left = CanRun (RunWith net cert) files (λ n. IsExcessiveStream n left ⊎ IsStreamAbove n left)
IsExcessive command files left = CanRun command files (λ n. IsExcessiveStream n left)
