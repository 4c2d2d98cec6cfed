-- The headline: what is so where the status is 0, in the words of the subject and without any calculation.
use Rattle.std.specs.Prelude.{◌≡◌, ◌+◌, ◌*ℤ◌, ◌≤ℤ◌, ℕ, ℤ, pos, List, [], ◌∷◌, map}
use Rattle.mp_model.specs.Arrivals.{IsPermitted, arrivals_of}
use Rattle.mp_model.specs.Certificate.{Cert, Certifies}
use Rattle.mp_model.specs.Guard as model
use Rattle.mp_model.specs.Log.{text_of, header_lines, line_after, period_line, run_text}
use Rattle.mp_model.specs.Network.{Network, Junction}
use Rattle.mp_model.specs.Pressure.{AllGreatest, IsGreatestStageBy}
use Rattle.mp_model.specs.ReportedLog.{reported_line, reported_run_text}
use Rattle.mp_model.specs.Reports.{AllTimely, History, Period, advance_by, first_history, reported_queue}
use Rattle.mp_model.specs.Run.{run}
use Rattle.mp_model.specs.Slack.{IsGreatestSlack}
use Rattle.mp_model.specs.Step.{State, queue, queued, step}
use Rattle.mp_model.specs.StreamEnd.{stream_closed}
use Rattle.mp_model.specs.StreamPeriods.{stream_periods}
use Rattle.mp_laws.specs.Renewed.{ClosesPeriods}
use Rattle.mp_cert.specs.TextMeaning.{cert_meaning, vector_meaning}
use Rattle.mp_gen.specs.DemoNetwork.{demo_network}
use Rattle.mp_netfile.specs.Meaning.{file_meaning}
use Rattle.mp_control.specs.Controlling as control
use Rattle.mp_event_run.specs.declared.ends.RunEnd.TheVariants as end
use Rattle.mp_cli.specs.declared.outcome.Outcome.TheVariants.{Done}
use Rattle.mp_cli.specs.Commands.{Command, Run, RunWith, Show, Certify, Check, Refute, Audit, AuditWith, Control, Demo, Scale, Overload, Frames, Plan, Guard, ControlGuard, RunGuard, AuditGuard, Unknown}
use Rattle.mp_cli.specs.Opening.{Reads}
use Rattle.mp_cli.specs.Ports.{Ports}
use Rattle.mp_cli.specs.Running.{RunsTo}
use Rattle.mp_cli.specs.Sessions.{HoldsWith, HoldsWithGreatest}
use Rattle.mp_press.specs.Queues.{naturals}
use Rattle.mp_cli.specs.Showing.{ShowsText}
use Rattle.mp_cli.specs.Certifying.{WritesGreatest}
use Rattle.mp_cli.specs.Checking.{AcceptsCert}
use Rattle.mp_cli.specs.Refuting.{SpeaksAgainst}
use Rattle.mp_cli.specs.Auditing.{IsShownWhole}
use Rattle.mp_cli.specs.Demonstrating.{IsShownRun}
use Rattle.mp_cli.specs.Scaling.{WritesScaled}
use Rattle.mp_cli.specs.Overloading.{WritesGrowth}
use Rattle.mp_cli.specs.Framing.{FramesHoldGreatest, WritesFramedLog}
use Rattle.mp_cli.specs.Planning.{PlanHolds, WritesPlannedLog}
use Rattle.mp_cli.specs.Guarding.{WritesGuard}
use Rattle.mp_cli.specs.GuardControlling.{ControlsUnder}
use Rattle.mp_cli.specs.GuardRunning.{RunsUnder, WritesGuardedLog}
use Rattle.mp_cli.specs.GuardAuditing.{IsShownWholeUnder}
use Rattle.mp_guard.specs.GuardText.{guard_meaning}
use Rattle.mp_guard_control.specs.Accounts.{guarded_controller}
use Rattle.mp_guard_control.specs.Driving as guarded

-- The stream was read to its end, and behind the header of the slack num/den and the bounds the text of its run was put: of the run by the reports with which its events closed its periods.
abbrev pub WritesLog : Network → Ports → ℕ → ℕ → List ℕ → Type 0
WritesLog net ports num den bounds = RunsTo net (text_of (header_lines net num den bounds)) end.Done ports

-- The lines of counts were read to their end, and the control log was put, each of whose answers has the stages of greatest pressure at its counts.
abbrev pub WritesAnswers : Network → Ports → Type 0
WritesAnswers net ports = control.Finished net ports.input_before ports.input_after ports.output_before ports.output_after

-- The lines of counts were read to their end, and behind the header the control log under the guard was put, each of whose answers has the guarded stages at its counts.
abbrev pub WritesGuarded : Network → model.Guard → Ports → List ℕ → Type 0
WritesGuarded net guard ports header = guarded.Finished net (guarded_controller net guard header) ports.input_before ports.input_after ports.output_before ports.output_after

-- This is what each command has done where the status is 0.
abbrev pub Does : Command → Ports → Type 0
Does (Run net) ports = Reads file_meaning ports.files net (λ n. HoldsWithGreatest n (WritesLog n ports))
Does (RunWith net cert) ports = Reads file_meaning ports.files net (λ n. Reads (cert_meaning n) ports.files cert (HoldsWith n (WritesLog n ports)))
Does (Show net) ports = Reads file_meaning ports.files net (λ n. ShowsText Done n ports)
Does (Certify net) ports = Reads file_meaning ports.files net (λ n. (cert : Cert) × WritesGreatest Done n ports cert)
Does (Check net cert) ports = Reads file_meaning ports.files net (λ n. Reads (cert_meaning n) ports.files cert (AcceptsCert Done n ports))
Does (Refute net vector) ports = Reads file_meaning ports.files net (λ n. Reads (vector_meaning n) ports.files vector (λ p. SpeaksAgainst Done n ports (naturals p)))
Does (Audit net) ports = Reads file_meaning ports.files net (λ n. HoldsWithGreatest n (IsShownWhole Done n ports))
Does (AuditWith net cert) ports = Reads file_meaning ports.files net (λ n. Reads (cert_meaning n) ports.files cert (HoldsWith n (IsShownWhole Done n ports)))
Does (Control net) ports = Reads file_meaning ports.files net (λ n. WritesAnswers n ports)
Does (Demo n) ports = HoldsWithGreatest (demo_network n) (IsShownRun Done (demo_network n) n ports)
Does (Scale net d) ports = Reads file_meaning ports.files net (λ n. (cert : Cert) × WritesScaled Done n d ports cert)
Does (Overload net) ports = Reads file_meaning ports.files net (λ n. (vector : List ℤ) × WritesGrowth Done n ports vector)
Does (Frames net f) ports = Reads file_meaning ports.files net (λ n. FramesHoldGreatest n f (WritesFramedLog n f ports))
Does (Plan net c) ports = Reads file_meaning ports.files net (λ n. PlanHolds n c (WritesPlannedLog n ports))
Does (Guard net cycle lost d) ports = Reads file_meaning ports.files net (λ n. (guard : model.Guard) × WritesGuard Done n cycle lost d ports guard)
Does (ControlGuard net guard) ports = Reads file_meaning ports.files net (λ n. Reads (guard_meaning n) ports.files guard (λ g. ControlsUnder n g (WritesGuarded n g ports)))
Does (RunGuard net guard) ports = Reads file_meaning ports.files net (λ n. Reads (guard_meaning n) ports.files guard (λ g. RunsUnder n g (WritesGuardedLog n g ports)))
Does (AuditGuard net guard) ports = Reads file_meaning ports.files net (λ n. Reads (guard_meaning n) ports.files guard (λ g. RunsUnder n g (IsShownWholeUnder Done n g ports)))
Does Unknown ports = ⊥

-- A period leads from one state to the next: each junction shows the stage of greatest pressure at the queues before the period, the lowest number on ties; so its line says; and after it what entered is what departed and what is queued.
pub record IsPeriod (net : Network) (before : State) (counts : List ℕ) (after : State) : Type 0 where
  pub stages : List ℕ
  pub greatest : AllGreatest net (queue before) net.junctions stages
  pub moved : after ≡ step net stages (arrivals_of net counts) before
  pub line : line_after net before counts ≡ period_line after.period counts stages after.queues
  pub balanced : after.total_in ≡ after.total_out + queued net after

-- The states are one more than the periods, and the fact is true of each period and the two states around it.
abbrev pub EachPeriod : (State → List ℕ → State → Type 0) → List State → List (List ℕ) → Type 0
EachPeriod P (before ∷ after ∷ states) (counts ∷ A) = P before counts after × EachPeriod P (after ∷ states) A
EachPeriod P (last ∷ []) [] = Unit {0}
EachPeriod P states A = ⊥

-- Each stage of a list is the one of greatest pressure at the junction of its place, the lowest number on ties: at the junction's own queues of now, and at those of the links that it feeds as reports of these ages have them.
abbrev pub AllGreatestBy : Network → History → List Junction → List (List ℕ) → List ℕ → Type 0
AllGreatestBy net history (j ∷ js) (ages ∷ rest) (s ∷ ss) = IsGreatestStageBy net (queue history.now) (reported_queue net history j ages) j s × AllGreatestBy net history js rest ss
AllGreatestBy net history [] [] [] = Unit {0}
AllGreatestBy net history js ages ss = ⊥

-- A period follows a run up to now by its reports: each junction shows the stage of greatest pressure by these; so its line says; and after it what entered is what departed and what is queued.
pub record IsReportedPeriod (net : Network) (history : History) (period : Period) : Type 0 where
  pub stages : List ℕ
  pub greatest : AllGreatestBy net history net.junctions period.ages stages
  pub moved : (advance_by net period history).now ≡ step net stages (arrivals_of net period.counts) history.now
  pub line : reported_line net history period ≡ period_line (advance_by net period history).now.period period.counts stages (advance_by net period history).now.queues
  pub balanced : (advance_by net period history).now.total_in ≡ (advance_by net period history).now.total_out + queued net (advance_by net period history).now

-- Each of these periods follows so, one after the other, from a run up to now on.
abbrev pub EachReported : Network → History → List Period → Type 0
EachReported net history [] = Unit {0}
EachReported net history (period ∷ periods) = IsReportedPeriod net history period × EachReported net (advance_by net period history) periods

-- The promise of a network: over all permitted arrivals each period of the run is such, and each of a run by timely reports follows so; the periods that a stream closes are ones of permitted arrivals and timely reports; where the delay is 0 the text of the run over them is that of the run over their arrivals; and no certificate that certifies the network, whatever its numbers, has more slack than the greatest.
pub record KeepsPromise (net : Network) : Type 0 where
  pub periods : (A : List (List ℕ)) → IsPermitted net A → EachPeriod (IsPeriod net) (run net A) A
  pub reported : (periods : List Period) → IsPermitted net (map (λ period. period.counts) periods) → AllTimely net 0 periods → EachReported net (first_history net) periods
  pub closes : (text : List ℕ) → ClosesPeriods net text
  pub permitted : (text : List ℕ) → IsPermitted net (stream_closed net text)
  pub prompt : net.delay ≡ 0 → (text : List ℕ) → reported_run_text net (stream_periods net text) ≡ run_text net (stream_closed net text)
  pub slack : (num den : ℕ) → IsGreatestSlack net num den → (cert : Cert) → Certifies net cert → (cert.e *ℤ pos den) ≤ℤ (pos num *ℤ cert.d)

-- A fact is true of the network that a command is on.
abbrev pub OfNetwork : Command → Ports → (Network → Type 0) → Type 0
OfNetwork (Run net) ports P = Reads file_meaning ports.files net P
OfNetwork (RunWith net cert) ports P = Reads file_meaning ports.files net P
OfNetwork (Show net) ports P = Reads file_meaning ports.files net P
OfNetwork (Certify net) ports P = Reads file_meaning ports.files net P
OfNetwork (Check net cert) ports P = Reads file_meaning ports.files net P
OfNetwork (Refute net vector) ports P = Reads file_meaning ports.files net P
OfNetwork (Audit net) ports P = Reads file_meaning ports.files net P
OfNetwork (AuditWith net cert) ports P = Reads file_meaning ports.files net P
OfNetwork (Control net) ports P = Reads file_meaning ports.files net P
OfNetwork (Demo n) ports P = P (demo_network n)
OfNetwork (Scale net d) ports P = Reads file_meaning ports.files net P
OfNetwork (Overload net) ports P = Reads file_meaning ports.files net P
OfNetwork (Frames net f) ports P = Reads file_meaning ports.files net P
OfNetwork (Plan net c) ports P = Reads file_meaning ports.files net P
OfNetwork (Guard net cycle lost d) ports P = Reads file_meaning ports.files net P
OfNetwork (ControlGuard net guard) ports P = Reads file_meaning ports.files net P
OfNetwork (RunGuard net guard) ports P = Reads file_meaning ports.files net P
OfNetwork (AuditGuard net guard) ports P = Reads file_meaning ports.files net P
OfNetwork Unknown ports P = ⊥
