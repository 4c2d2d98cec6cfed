-- Where the status is 0 a command has done what it was asked, and its network keeps its promise.
use Rattle.std.proofs.Common.{◌≡◌, ◌≤◌, ◌⊎◌, ◌+◌, ℕ, List, [], ◌∷◌, length, map, zip, refl, ap, subst, arith, Result, inl, inr, ⊎_elim}
use Rattle.mp_model.specs.Arrivals.{arrivals_of}
use Rattle.mp_model.specs.Certificate.{Cert}
use Rattle.mp_model.specs.Frames.{frame_network, framed_after, framed_lines_from, framed_log, framed_opening}
use Rattle.mp_model.specs.Log.{text_of, header_lines, end_line}
use Rattle.mp_model.specs.Network.{Network, Junction}
use Rattle.mp_model.specs.NetworkRules.{IsNetwork, IsAcceptable}
use Rattle.mp_model.specs.Plans.{plan_header, planned_after, planned_lines_from, planned_log}
use Rattle.mp_model.specs.Reports.{AllTimely, History, Period, advance_by, first_history, reported_queue, reported_stage, reported_stages}
use Rattle.mp_model.specs.Run.{advance, greatest_stages, run_from, opening}
use Rattle.mp_model.specs.Step.{State, queue, queued}
use Rattle.mp_laws.proofs.Bounds.{all_greatest}
use Rattle.mp_laws.proofs.Conserved.{step_conserves, conserved}
use Rattle.mp_laws.proofs.Greatest.{greatest_stage_by_is}
use Rattle.mp_laws.proofs.Renewed.{closes_periods}
use Rattle.mp_laws.proofs.StreamEnds.{stream_closes}
use Rattle.mp_laws.proofs.Tied.{no_greater}
use Rattle.mp_event_run.proofs.Prompting.{prompt_texts}
use Rattle.std.specs.List.{AllByRecursion}
use Rattle.mp_cert.specs.TextMeaning.{cert_meaning, vector_meaning}
use Rattle.mp_gen.specs.DemoNetwork.{demo_network}
use Rattle.mp_gen.proofs.Roads.{demo_acceptable}
use Rattle.mp_netfile.specs.Meaning.{file_meaning}
use Rattle.mp_run.specs.declared.run.RunEnd.TheVariants as how
use Rattle.mp_cli.specs.declared.outcome.Outcome.{Outcome}
use Rattle.mp_cli.specs.declared.outcome.Outcome.TheVariants.{Done, Run as Ran}
use Rattle.mp_cli.specs.Commands.{Command, Run, RunWith, Show, Certify, Check, Refute, Audit, AuditWith, Control, Demo, Scale, Overload, Frames, Plan, Guard, ControlGuard, RunGuard, AuditGuard, Unknown}
use Rattle.mp_cli.specs.Auditing.{Compares}
use Rattle.mp_cli.specs.Demonstrating.{IsShownRun}
use Rattle.mp_cli.specs.Ends.{Means}
use Rattle.mp_cli.specs.Framing.{FramesHoldGreatest, OpensFrames, StreamsFrames, WritesFramedLog}
use Rattle.mp_cli.specs.Planning.{PlanHolds, StreamsPlan, WritesPlannedLog}
use Rattle.mp_model.specs.Guard as model
use Rattle.mp_guard.specs.GuardText.{guard_meaning}
use Rattle.mp_cli.specs.GuardControlling.{ControlsUnder, GuardedOn}
use Rattle.mp_cli.specs.GuardRunning.{RunsUnder, StreamsGuarded, WritesGuardedLog, guarded_log}
use Rattle.mp_cli.specs.GuardAuditing.{IsShownWholeUnder}
use Rattle.mp_guard.specs.Bursts.{bounds_of, waits_of}
use Rattle.mp_guard.specs.GuardHeader.{guard_header}
use Rattle.mp_guard_run.specs.Running.{guarded_after, guarded_lines_from}
use Rattle.mp_model.specs.GuardedChoice.{guarded_opening}
use Rattle.mp_cli.specs.Headline.{WritesGuarded, Does, IsPeriod, EachPeriod, AllGreatestBy, EachReported, KeepsPromise, OfNetwork, WritesLog}
use Rattle.mp_cli.specs.Opening.{Reads, RefusesNetwork, OnNetwork}
use Rattle.mp_cli.specs.Ports.{Ports, Files, IsUntouched}
use Rattle.mp_cli.specs.Sessions.{HoldsWith, HoldsWithGreatest, Opens, OnSession, OnAnySession, AtGreatest, IsUnopened, IsUnaccepted}
use Rattle.mp_cli.specs.Statuses.{status_of}
use Rattle.mp_cli.specs.Verdicts.{OfAdmitted}
use Rattle.mp_cli.proofs.StreamLemmas.{puts_log}

-- a command that was not refused went on
went : {R G : Type 0} {ports : Ports} → ((R × IsUntouched ports) ⊎ G) → (R → ⊥) → G
went (inl refused) never = absurd (never refused.0)
went (inr goes) never = goes

of_reads : {X E : Type 0} (meaning : List ℕ → Result X E) (files : Files) (name : List ℕ) (P Q : X → Type 0) → Reads meaning files name P → ((x : X) → P x → Q x) → Reads meaning files name Q
of_reads meaning files name P Q reads f = record { bytes = reads.bytes; there = reads.there; few = reads.few; value = reads.value; means = reads.means; is = f reads.value reads.is }

-- behind a verdict and a session stands the greatest slack
greatest_of : (outcome : Outcome) (net : Network) (ports : Ports) (P Q : ℕ → ℕ → List ℕ → Type 0) → ((cert : Cert) → IsUnopened outcome net cert → ⊥) → ((num den : ℕ) (bounds : List ℕ) → P num den bounds → Q num den bounds)
    → OfAdmitted net (λ cert. OnSession outcome net cert ports (AtGreatest net P)) → HoldsWithGreatest net Q
greatest_of outcome net ports P Q never f admitted =
    let opens : Opens net (AtGreatest net P) admitted.cert = went admitted.is (never admitted.cert) in
    let under = opens.holds.holds in
    record {
      num = opens.holds.num;
      den = opens.holds.den;
      greatest = under.is.0;
      holds = record { bounds = under.bounds; are = under.are; room = under.room; within = under.within; reported = under.reported; is = f opens.holds.num opens.holds.den under.bounds under.is.1 };
    }

with_cert : (outcome : Outcome) (net : Network) (ports : Ports) (P Q : ℕ → ℕ → List ℕ → Type 0) (cert : Cert) → (IsUnaccepted outcome net cert → ⊥) → ((num den : ℕ) (bounds : List ℕ) → P num den bounds → Q num den bounds)
    → OnAnySession outcome net cert ports P → HoldsWith net Q cert
with_cert outcome net ports P Q cert never f session =
    let opens : Opens net P cert = went session never in
    let under = opens.holds.holds in
    record {
      certifies = opens.holds.certifies;
      num = opens.holds.num;
      den = opens.holds.den;
      slack = opens.holds.slack;
      holds = record { bounds = under.bounds; are = under.are; room = under.room; within = under.within; reported = under.reported; is = f opens.holds.num opens.holds.den under.bounds under.is };
    }

-- behind the end of a run by frames stands the framed log, and behind that of a run by a plan the planned one
frames_done : (net : Network) (F : ℕ) (cert : Cert) (ports : Ports) → OpensFrames net F (AtGreatest (frame_network net F) (StreamsFrames (Ran how.Done) net F ports)) cert → FramesHoldGreatest net F (WritesFramedLog net F ports)
frames_done net F cert ports opens = record {
  num = opens.num;
  den = opens.den;
  greatest = opens.holds.is.0;
  holds = record {
    bounds = opens.holds.bounds;
    are = opens.holds.are;
    room = opens.holds.room;
    within = opens.holds.within;
    is = puts_log net (framed_lines_from net F (framed_opening net)) (λ A. end_line net (framed_after net F (framed_opening net) A).state) (text_of (header_lines net opens.num opens.den opens.holds.bounds)) ports
        (header_lines net opens.num opens.den opens.holds.bounds) (framed_log net F opens.num opens.den opens.holds.bounds) refl (λ A. refl) opens.holds.is.1;
  };
}

plan_done : (net : Network) (C : ℕ) (ports : Ports) → PlanHolds net C (StreamsPlan (Ran how.Done) net ports) → PlanHolds net C (WritesPlannedLog net ports)
plan_done net C ports holds = record {
  plan = holds.plan;
  stated = holds.stated;
  on = holds.on;
  within = holds.within;
  is = puts_log net (planned_lines_from net holds.plan (opening net)) (λ A. end_line net (planned_after net holds.plan (opening net) A)) (text_of (plan_header net holds.plan)) ports
      (plan_header net holds.plan) (planned_log net holds.plan) refl (λ A. refl) holds.is;
}

guarded_done : (net : Network) (guard : model.Guard) (ports : Ports) → ControlsUnder net guard (GuardedOn (Ran how.Done) net guard ports) → ControlsUnder net guard (WritesGuarded net guard ports)
guarded_done net guard ports under = record { guards = under.guards; rest = under.rest; keeps = under.keeps; waits = under.waits; is = under.is }

guard_run_done : (net : Network) (guard : model.Guard) (ports : Ports) → RunsUnder net guard (StreamsGuarded (Ran how.Done) net guard ports) → RunsUnder net guard (WritesGuardedLog net guard ports)
guard_run_done net guard ports under =
    let header = guard_header net guard (bounds_of net guard under.rest.surpluses under.rest.bursts) (waits_of net guard) in
    record {
      guards = under.guards;
      rest = under.rest;
      stages = under.stages;
      waits = under.waits;
      within = under.within;
      keeps = under.keeps;
      is = puts_log net (guarded_lines_from net guard (guarded_opening net guard)) (λ A. end_line net (guarded_after net guard (guarded_opening net guard) A).state) (text_of header) ports header (guarded_log net guard header) refl (λ A. refl) under.is;
    }

does_done : (command : Command) (ports : Ports) → Means command Done ports → Does command ports
does_done (Run net) ports means = of_reads file_meaning ports.files net _ (λ n. HoldsWithGreatest n (WritesLog n ports)) (went means (λ no. no)) (λ n on. greatest_of Done n ports (λ num den bounds. ⊥) (WritesLog n ports) (λ cert no. no) (λ num den bounds no. absurd no) (went on.1 (λ no. no)))
does_done (RunWith net cert) ports means =
    of_reads file_meaning ports.files net _ (λ n. Reads (cert_meaning n) ports.files cert (HoldsWith n (WritesLog n ports))) (went means (λ no. no)) (λ n on.
    of_reads (cert_meaning n) ports.files cert _ (HoldsWith n (WritesLog n ports)) (went on.1 (λ no. no)) (λ c session. with_cert Done n ports (λ num den bounds. ⊥) (WritesLog n ports) c (λ no. no) (λ num den bounds no. absurd no) session))
does_done (Show net) ports means = of_reads file_meaning ports.files net _ _ (went means (λ no. no)) (λ n on. went on.1 (λ no. (let wrong = no in cc)))
does_done (Certify net) ports means = of_reads file_meaning ports.files net _ _ (went means (λ no. no)) (λ n on. let admitted : OfAdmitted n _ = went on.1 (λ no. no) in (admitted.cert, admitted.is))
does_done (Check net cert) ports means =
    of_reads file_meaning ports.files net _ _ (went means (λ no. no)) (λ n on.
    of_reads (cert_meaning n) ports.files cert _ _ (went on.1 (λ no. no)) (λ c checks. (went checks (λ no. no)).1))
does_done (Refute net vector) ports means =
    of_reads file_meaning ports.files net _ _ (went means (λ no. no)) (λ n on.
    of_reads (vector_meaning n) ports.files vector _ _ (went on.1 (λ no. no)) (λ p shows. (went shows (λ no. no)).1))
does_done (Audit net) ports means = of_reads file_meaning ports.files net _ _ (went means (λ no. no)) (λ n on. greatest_of Done n ports _ _ (λ cert no. no) (λ num den bounds is. is) (went on.1 (λ no. no)))
does_done (AuditWith net cert) ports means =
    of_reads file_meaning ports.files net _ _ (went means (λ no. no)) (λ n on.
    of_reads (cert_meaning n) ports.files cert _ _ (went on.1 (λ no. no)) (λ c session. with_cert Done n ports _ _ c (λ no. no) (λ num den bounds is. is) session))
does_done (Control net) ports means = absurd (went means (λ no. no)).is.1
does_done (Demo n) ports means = greatest_of Done (demo_network n) ports _ _ (λ cert no. no) (λ num den bounds is. is) (went means (λ no. no))
does_done (Scale net d) ports means = of_reads file_meaning ports.files net _ _ (went means (λ no. no)) (λ n on. let found = went on.1 (λ no. no) in (found.cert, found.is))
does_done (Overload net) ports means = of_reads file_meaning ports.files net _ _ (went means (λ no. no)) (λ n on. let found = went on.1 (λ no. no) in (found.vector, (went found.is (λ no. no)).2))
does_done (Frames net F) ports means = absurd (went (went ((went ((went means (λ no. no)).is.1) (λ no. no)).1) (λ no. no)).is (λ no. no)).holds.is.1
does_done (Plan net C) ports means = absurd (went ((went means (λ no. no)).is.1) (λ no. no)).is
does_done (Guard net cycle lost d) ports means = of_reads file_meaning ports.files net _ _ (went means (λ no. no)) (λ n on. let found = went on.1 (λ no. no) in (found.guard, (went found.is (λ no. no)).1))
does_done (ControlGuard net guard) ports means = absurd (went (went (went ((went means (λ no. no)).is.1) (λ no. no)).is (λ no. no)).1 (λ no. no)).is
does_done (RunGuard net guard) ports means = absurd (went (went (went ((went means (λ no. no)).is.1) (λ no. no)).is (λ no. no)).1 (λ no. no)).is
does_done (AuditGuard net guard) ports means =
    of_reads file_meaning ports.files net _ _ (went means (λ no. no)) (λ n on.
    of_reads (guard_meaning n) ports.files guard _ (λ g. RunsUnder n g (IsShownWholeUnder Done n g ports)) (went on.1 (λ no. no)) (λ g kept. went (went kept (λ no. no)).1 (λ no. no)))
does_done Unknown ports means = absurd (let no = means.0 in cc)

does_run : (command : Command) (ports : Ports) → Means command (Ran how.Done) ports → Does command ports
does_run (Run net) ports means = of_reads file_meaning ports.files net _ _ (went means (λ no. no)) (λ n on. greatest_of (Ran how.Done) n ports _ _ (λ cert no. no) (λ num den bounds is. is) (went on.1 (λ no. no)))
does_run (RunWith net cert) ports means =
    of_reads file_meaning ports.files net _ _ (went means (λ no. no)) (λ n on.
    of_reads (cert_meaning n) ports.files cert _ _ (went on.1 (λ no. no)) (λ c session. with_cert (Ran how.Done) n ports _ _ c (λ no. no) (λ num den bounds is. is) session))
does_run (Show net) ports means = absurd (went ((went means (λ no. no)).is.1) (λ no. (let wrong = no in cc))).answers.1
does_run (Certify net) ports means = absurd (went ((went means (λ no. no)).is.1) (λ no. no)).is.answers.1
does_run (Check net cert) ports means = absurd (went (went ((went means (λ no. no)).is.1) (λ no. no)).is (λ no. no)).1.answers.1
does_run (Refute net vector) ports means = absurd (⊎_elim (λ s. s.answers.1) (λ s. s.answers.1) (went (went ((went means (λ no. no)).is.1) (λ no. no)).is (λ no. no)).1)
does_run (Audit net) ports means =
    let on = went means (λ no. no) in
    let none : HoldsWithGreatest on.value (λ num den bounds. ⊥) = greatest_of (Ran how.Done) on.value ports (Compares (Ran how.Done) on.value ports) _ (λ cert no. no) (λ num den bounds is. is.written) (went on.is.1 (λ no. no)) in
    absurd none.holds.is
does_run (AuditWith net cert) ports means =
    let on = went means (λ no. no) in
    let read = went on.is.1 (λ no. no) in
    let none : HoldsWith on.value (λ num den bounds. ⊥) read.value = with_cert (Ran how.Done) on.value ports (Compares (Ran how.Done) on.value ports) _ read.value (λ no. no) (λ num den bounds is. is.written) read.is in
    absurd none.holds.is
does_run (Control net) ports means = of_reads file_meaning ports.files net _ _ (went means (λ no. no)) (λ n on. on.1)
does_run (Demo n) ports means =
    let none : HoldsWithGreatest (demo_network n) (λ num den bounds. ⊥) = greatest_of (Ran how.Done) (demo_network n) ports (IsShownRun (Ran how.Done) (demo_network n) n ports) _ (λ cert no. no) (λ num den bounds is. is.answers.1) (went means (λ no. no)) in
    absurd none.holds.is
does_run (Scale net d) ports means = absurd (went ((went means (λ no. no)).is.1) (λ no. no)).is.answers.1
does_run (Overload net) ports means = absurd (went (went ((went means (λ no. no)).is.1) (λ no. no)).is (λ no. no)).2.answers.1
does_run (Frames net F) ports means =
    of_reads file_meaning ports.files net _ (λ n. FramesHoldGreatest n F (WritesFramedLog n F ports)) (went means (λ no. no)) (λ n on.
    let framed = went on.1 (λ no. no) in
    let admitted = went framed.1 (λ no. no) in
    frames_done n F admitted.cert ports (went admitted.is (λ no. no)))
does_run (Plan net C) ports means = of_reads file_meaning ports.files net _ (λ n. PlanHolds n C (WritesPlannedLog n ports)) (went means (λ no. no)) (λ n on. plan_done n C ports (went on.1 (λ no. no)))
does_run (Guard net cycle lost d) ports means = absurd (went (went ((went means (λ no. no)).is.1) (λ no. no)).is (λ no. no)).1.answers.1
does_run (ControlGuard net guard) ports means =
    of_reads file_meaning ports.files net _ (λ n. Reads (guard_meaning n) ports.files guard (λ g. ControlsUnder n g (WritesGuarded n g ports))) (went means (λ no. no)) (λ n on.
    of_reads (guard_meaning n) ports.files guard _ (λ g. ControlsUnder n g (WritesGuarded n g ports)) (went on.1 (λ no. no)) (λ g kept. guarded_done n g ports (went (went kept (λ no. no)).1 (λ no. no))))
does_run (RunGuard net guard) ports means =
    of_reads file_meaning ports.files net _ (λ n. Reads (guard_meaning n) ports.files guard (λ g. RunsUnder n g (WritesGuardedLog n g ports))) (went means (λ no. no)) (λ n on.
    of_reads (guard_meaning n) ports.files guard _ (λ g. RunsUnder n g (WritesGuardedLog n g ports)) (went on.1 (λ no. no)) (λ g kept. guard_run_done n g ports (went (went kept (λ no. no)).1 (λ no. no))))
does_run (AuditGuard net guard) ports means = absurd (went (went (went ((went means (λ no. no)).is.1) (λ no. no)).is (λ no. no)).1 (λ no. no)).is.written
does_run Unknown ports means = absurd (let no = means.0 in cc)

zero_outcome : (outcome : Outcome) → status_of outcome ≡ 0 → (outcome ≡ Done) ⊎ (outcome ≡ Ran how.Done)
zero_outcome Done done = inl refl
zero_outcome (Ran how.Done) done = inr refl
zero_outcome outcome done = absurd (omega arith)

pub does : (command : Command) (outcome : Outcome) (ports : Ports) → status_of outcome ≡ 0 → Means command outcome ports → Does command ports
does command outcome ports done means =
    ⊎_elim (λ (is : outcome ≡ Done). does_done command ports (subst (λ (o : Outcome). Means command o ports) is means)) (λ (is : outcome ≡ Ran how.Done). does_run command ports (subst (λ (o : Outcome). Means command o ports) is means)) (zero_outcome outcome done)

-- a period of the run is one of greatest stages that keeps the balance
period_of : (net : Network) → IsNetwork net → (state : State) (counts : List ℕ) → state.total_in ≡ state.total_out + queued net state → IsPeriod net state counts (advance net counts state)
period_of net ok state counts balanced = record {
  stages = greatest_stages net (queue state);
  greatest = all_greatest net (queue state) net.junctions ok.some_stage;
  moved = refl;
  line = refl;
  balanced = step_conserves net ok (greatest_stages net (queue state)) (arrivals_of net counts) state balanced;
}

periods_from : (net : Network) → IsNetwork net → (state : State) → state.total_in ≡ state.total_out + queued net state → (A : List (List ℕ)) → EachPeriod (IsPeriod net) (run_from net state A) A
periods_from net ok state balanced [] = tt
periods_from net ok state balanced (counts ∷ []) = (period_of net ok state counts balanced, tt)
periods_from net ok state balanced (counts ∷ more ∷ A) =
    let period = period_of net ok state counts balanced in
    (period, periods_from net ok (advance net counts state) period.balanced (more ∷ A))

-- so is one by timely reports
all_greatest_by : (net : Network) (history : History) (js : List Junction) (ages : List (List ℕ)) → length ages ≡ length js → AllByRecursion (λ j. 1 ≤ length j.stages) js → AllGreatestBy net history js ages (map (λ p. reported_stage net history p.0 p.1) (zip js ages))
all_greatest_by net history [] [] same some = tt
all_greatest_by net history (j ∷ js) (a ∷ ages) same some =
    (greatest_stage_by_is net (queue history.now) (reported_queue net history j a) j some.0, all_greatest_by net history js ages (omega (arith, same)) some.1)
all_greatest_by net history [] (a ∷ ages) same some = absurd (omega (arith, same))
all_greatest_by net history (j ∷ js) [] same some = absurd (omega (arith, same))

each_reported : (net : Network) → IsNetwork net → (history : History) (before : ℕ) → history.now.total_in ≡ history.now.total_out + queued net history.now → (periods : List Period) → AllTimely net before periods → EachReported net history periods
each_reported net ok history before balanced [] timely = tt
each_reported net ok history before balanced (period ∷ periods) timely =
    let after = step_conserves net ok (reported_stages net history period.ages) (arrivals_of net period.counts) history.now balanced in (
      record {
        stages = reported_stages net history period.ages;
        greatest = all_greatest_by net history net.junctions period.ages timely.0.junctions ok.some_stage;
        moved = refl;
        line = refl;
        balanced = after;
      },
      each_reported net ok (advance_by net period history) (before + 1) after periods timely.1,
    )

promise_of : (net : Network) → IsNetwork net → KeepsPromise net
promise_of net ok = record {
  periods = λ A permitted. periods_from net ok (opening net) (conserved net ok []).0 A;
  reported = λ periods permitted timely. each_reported net ok (first_history net) 0 (conserved net ok []).0 periods timely;
  closes = closes_periods net ok;
  permitted = λ text. (stream_closes net text).permitted;
  prompt = λ none. (prompt_texts net ok none).stream_text;
  slack = λ num den greatest cert certifies. no_greater net ok cert certifies greatest.shown.0 num den greatest.shown.1;
}

promise_on : (outcome : Outcome) (net : List ℕ) (ports : Ports) (P : Network → Type 0) → (RefusesNetwork outcome ports.files net → ⊥) → OnNetwork outcome net ports P → Reads file_meaning ports.files net KeepsPromise
promise_on outcome net ports P never on = of_reads file_meaning ports.files net (λ n. IsAcceptable n × P n) KeepsPromise (went on never) (λ n is. promise_of n is.0.network)

not_refused : (outcome : Outcome) (files : Files) (name : List ℕ) → status_of outcome ≡ 0 → RefusesNetwork outcome files name → ⊥
not_refused Done files name done refused = refused
not_refused (Ran end) files name done refused = refused
not_refused outcome files name done refused = absurd (omega arith)

pub promised : (command : Command) (outcome : Outcome) (ports : Ports) → status_of outcome ≡ 0 → Means command outcome ports → OfNetwork command ports KeepsPromise
promised (Run net) outcome ports done means = promise_on outcome net ports _ (not_refused outcome ports.files net done) means
promised (RunWith net cert) outcome ports done means = promise_on outcome net ports _ (not_refused outcome ports.files net done) means
promised (Show net) outcome ports done means = promise_on outcome net ports _ (not_refused outcome ports.files net done) means
promised (Certify net) outcome ports done means = promise_on outcome net ports _ (not_refused outcome ports.files net done) means
promised (Check net cert) outcome ports done means = promise_on outcome net ports _ (not_refused outcome ports.files net done) means
promised (Refute net vector) outcome ports done means = promise_on outcome net ports _ (not_refused outcome ports.files net done) means
promised (Audit net) outcome ports done means = promise_on outcome net ports _ (not_refused outcome ports.files net done) means
promised (AuditWith net cert) outcome ports done means = promise_on outcome net ports _ (not_refused outcome ports.files net done) means
promised (Control net) outcome ports done means = promise_on outcome net ports _ (not_refused outcome ports.files net done) means
promised (Demo n) outcome ports done means = promise_of (demo_network n) (demo_acceptable n).network
promised (Scale net d) outcome ports done means = promise_on outcome net ports _ (not_refused outcome ports.files net done) means
promised (Overload net) outcome ports done means = promise_on outcome net ports _ (not_refused outcome ports.files net done) means
promised (Frames net F) outcome ports done means = promise_on outcome net ports _ (not_refused outcome ports.files net done) means
promised (Plan net C) outcome ports done means = promise_on outcome net ports _ (not_refused outcome ports.files net done) means
promised (Guard net cycle lost d) outcome ports done means = promise_on outcome net ports _ (not_refused outcome ports.files net done) means
promised (ControlGuard net guard) outcome ports done means = promise_on outcome net ports _ (not_refused outcome ports.files net done) means
promised (RunGuard net guard) outcome ports done means = promise_on outcome net ports _ (not_refused outcome ports.files net done) means
promised (AuditGuard net guard) outcome ports done means = promise_on outcome net ports _ (not_refused outcome ports.files net done) means
promised Unknown outcome ports done means = absurd (let wrong = means.0 in omega (arith, ap status_of wrong))
