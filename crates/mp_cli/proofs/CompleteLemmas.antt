-- Where nothing is wrong outside, a command does what was asked, or memory ran out.
use Rattle.std.proofs.Common.{◌≡◌, ◌≤◌, ◌<◌, ◌⊎◌, ◌*◌, ℕ, ℤ, List, length, refl, sym, ◌∙◌, ap, subst, arith, Some, None, Result, Ok, Err, inl, inr, ⊎_elim, IsSomeAnd}
use Rattle.std.specs.declared.option.Option.{Option}
use Rattle.mp_edge.specs.Outside.{Tells, OfFile}
use Rattle.mp_model.specs.Bounds.{AreBounds}
use Rattle.mp_model.specs.Certificate.{Cert}
use Rattle.mp_model.specs.Frames.{frame_network, framed_after, framed_lines_from, framed_opening}
use Rattle.mp_model.specs.Guard as model
use Rattle.mp_model.specs.Load.{ShowsOverload, IsTight, load, capacity}
use Rattle.mp_model.specs.Log.{end_line}
use Rattle.mp_model.specs.Network.{Network, entry}
use Rattle.mp_model.specs.NetworkRules.{IsNetwork}
use Rattle.mp_model.specs.Plans.{planned_after, planned_lines_from, Plan as PlanOfModel}
use Rattle.mp_model.specs.Run.{opening}
use Rattle.mp_model.specs.Slack.{IsSlack, IsGreatestSlack}
use Rattle.mp_event_audit.specs.RenewedLog.{RenewedDiffersAt}
use Rattle.mp_model.specs.declared.limits.TheConstants.{MOST_FILE_BYTES}
use Rattle.mp_cert.specs.Checking.{check_outcome}
use Rattle.mp_cert.specs.TextMeaning.{cert_meaning, vector_meaning}
use Rattle.mp_frame.specs.FrameNet.{frame_fault}
use Rattle.mp_flow.specs.declared.network.Place.TheVariants as at
use Rattle.mp_gen.specs.DemoNetwork.{demo_network}
use Rattle.mp_guard.specs.Bursts.{ComeToRest, bounds_of, waits_of}
use Rattle.mp_guard.specs.GuardHeader.{guard_header}
use Rattle.mp_guard_audit.specs.Auditing.{AuditsGuarded}
use Rattle.mp_guard_audit.specs.GuardedLog.{GuardedDiffersAt}
use Rattle.mp_netfile.specs.Meaning.{file_meaning}
use Rattle.mp_frame_run.specs.Running.{framed_course}
use Rattle.mp_guard_run.specs.Running.{guarded_after, guarded_course, guarded_lines_from}
use Rattle.mp_model.specs.GuardedChoice.{guarded_opening}
use Rattle.mp_plan_run.specs.Running.{plan_course}
use Rattle.mp_event_audit.specs.Auditing.{AuditsAs}
use Rattle.mp_run.specs.declared.auditing.AuditEnd.{AuditEnd}
use Rattle.mp_run.specs.declared.auditing.AuditEnd.TheVariants as ended
use Rattle.mp_run.specs.declared.run.RunEnd.{RunEnd}
use Rattle.mp_trial.specs.Search.{scaled, Found}
use Rattle.mp_cli.specs.declared.outcome.FileRole.TheVariants as file
use Rattle.mp_cli.specs.declared.outcome.TextKind.{TextKind}
use Rattle.mp_cli.specs.declared.outcome.Outcome.{Outcome}
use Rattle.mp_cli.specs.declared.outcome.Outcome.TheVariants.{Done, Store, Network as BadNetwork, LongText, Text, Admitted, Critical, Overloaded, Certificate, BrokenGuard, ZeroVector, WeakVector, NoCertificate, Overflow, GrowthOverflow, PivotLimit, SweepLimit, Uneven, LongFrames, FastFrames, CyclicPlan, FullPlan, PlanOverflow, NoGuard, FullGuard, BurstLimit, Differs, Read, Write, NoMemory}
use Rattle.mp_cli.specs.Auditing.{audit_line, EndsAudit}
use Rattle.mp_cli.specs.Checking.{RefusesCert}
use Rattle.mp_cli.specs.Commands.{Command, Run, RunWith, Show, Certify, Check, Refute, Audit, AuditWith, Control, Demo, Scale, Overload, Frames, Plan, Guard, ControlGuard, RunGuard, AuditGuard, Unknown}
use Rattle.mp_cli.specs.Complete.{IsGoodFile, IsGoodText, IsGoodStream, IsExcessiveStream, IsWholeStream, IsStreamAbove, IsGoodLog, IsGoodGuardedLog, IsRunnableCert, IsGoodVector, IsAdmittable, IsGrowing, IsRunnableFramesCert, IsPlannable, IsGuardable, CanRun, IsGood, IsExcessive}
use Rattle.mp_cli.specs.Ends.{Means}
use Rattle.mp_cli.specs.Opening.{Reads, RefusesNetwork, RefusesText}
use Rattle.mp_cli.specs.Ports.{Files, Ports, IsUntouched, Writes}
use Rattle.mp_cli.specs.Refuting.{IsZero, ShowsNothing}
use Rattle.mp_cli.specs.Framing.{IsUnframed, IsUnopenedFrames}
use Rattle.mp_cli.specs.Planning.{IsUnplanned}
use Rattle.mp_cli.specs.Scaling.{IsUnscaled}
use Rattle.mp_cli.specs.Overloading.{IsNotOverloaded, OfOverloaded, IsUntold}
use Rattle.mp_cli.specs.Guarding.{IsUnguarded, HasNoBursts, OfFound}
use Rattle.mp_cli.specs.GuardControlling.{IsBrokenGuard}
use Rattle.mp_guard.proofs.CheckLemmas.{accepts}
use Rattle.mp_guard.specs.GuardText.{guard_meaning}
use Rattle.mp_cli.proofs.GuardControlLemmas.{good_guarded}
use Rattle.mp_cli.proofs.GrowthLemmas.{told_weighed}
use Rattle.mp_cli.specs.Sessions.{IsUnopened, IsUnaccepted}
use Rattle.mp_cli.specs.Statuses.{status_of}
use Rattle.mp_cli.specs.Running.{RunsTo}
use Rattle.mp_cli.specs.Streaming.{EndsOn, OnRun, OnEvents}
use Rattle.mp_press.specs.Queues.{naturals}
use Rattle.mp_cli.specs.Verdicts.{IsUnadmitted, IsUnfinished, OfAdmitted}
use Rattle.mp_cli.proofs.ControlLemmas.{good_input}
use Rattle.mp_cli.proofs.EventLemmas.{good_events, excessive_events}
use Rattle.mp_cli.proofs.StreamLemmas.{ReadTo, arrivals_read, on_run, good_stream, excessive_stream}
use Rattle.mp_cli.proofs.VectorLemmas.{no_sum}

-- a status, unless memory ran out
abbrev pub EndsIn : ℕ → Outcome → Type 0
EndsIn n outcome = (status_of outcome ≡ n) ⊎ (status_of outcome ≡ 12)

-- nothing met a fault outside
pub record IsQuiet (outcome : Outcome) : Type 0 where
  pub store : status_of outcome ≡ 2 → ⊥
  pub read : status_of outcome ≡ 10 → ⊥
  pub write : status_of outcome ≡ 11 → ⊥

-- a command that is refused since memory ran out alone goes on else
goes : {R G : Type 0} {ports : Ports} (n : ℕ) (outcome : Outcome) → ((R × IsUntouched ports) ⊎ G) → (R → status_of outcome ≡ 12) → (G → EndsIn n outcome) → EndsIn n outcome
goes n outcome (inl refused) memory then = inr (memory refused.0)
goes n outcome (inr on) memory then = then on

-- a fact of the file that is there
of_there : {X E : Type 0} {meaning : List ℕ → Result X E} {files : Files} {name : List ℕ} {Q : X → Type 0} (P : List ℕ → Type 0) (good : IsGoodFile meaning files name Q) → OfFile files name P → P good.bytes
of_there {files = files} {name = name} P good told =
    let of_all : OfFile (Some good.all) name P = subst (λ (f : Files). OfFile f name P) good.told told in
    subst (λ (o : Option (List ℕ)). IsSomeAnd o P) good.there of_all

of_good : {X E : Type 0} (meaning : List ℕ → Result X E) (files : Files) (name : List ℕ) (Q P : X → Type 0) (good : IsGoodFile meaning files name Q) → Reads meaning files name P → P good.value
of_good meaning files name Q P good reads =
    let bytes : good.bytes ≡ reads.bytes = of_there (λ told. told ≡ reads.bytes) good reads.there in
    let same : reads.value ≡ good.value = (let e = sym reads.means ∙ ap meaning (sym bytes) ∙ good.means in cc) in
    subst P same reads.is

-- what is good is not refused
network_memory : (outcome : Outcome) (files : Files) (name : List ℕ) (Q : Network → Type 0) → IsQuiet outcome → IsGoodFile file_meaning files name Q → RefusesNetwork outcome files name → status_of outcome ≡ 12
network_memory (BadNetwork rule spot) files name Q quiet good refused = absurd (let no = sym (of_there (λ bytes. file_meaning bytes ≡ Err (rule, spot)) good refused) ∙ good.means in cc)
network_memory (Store file.Net) files name Q quiet good refused = absurd (quiet.store refl)
network_memory NoMemory files name Q quiet good refused = refl
network_memory outcome files name Q quiet good refused = absurd refused

text_memory : {X : Type 0} (outcome : Outcome) (kind : TextKind) (meaning : List ℕ → Result X ℕ) (files : Files) (name : List ℕ) (Q : X → Type 0) → IsQuiet outcome → IsGoodText meaning files name Q → RefusesText outcome kind meaning files name → status_of outcome ≡ 12
text_memory (Text is n) kind meaning files name Q quiet good refused = absurd (let no = sym (of_there (λ bytes. (length bytes ≤ MOST_FILE_BYTES) × (meaning bytes ≡ Err n)) good.file refused.1).1 ∙ good.file.means in cc)
text_memory (LongText is) kind meaning files name Q quiet good refused = absurd (let long = of_there (λ bytes. MOST_FILE_BYTES < length bytes) good.file refused.1 in let few = good.few in omega arith)
text_memory (Store file.Other) kind meaning files name Q quiet good refused = absurd (quiet.store refl)
text_memory NoMemory kind meaning files name Q quiet good refused = refl
text_memory outcome kind meaning files name Q quiet good refused = absurd refused

verdict_memory : (outcome : Outcome) (net : Network) → IsAdmittable net → IsUnadmitted outcome net → status_of outcome ≡ 12
verdict_memory (Critical against) net good refused = absurd (let no = sym good.reached ∙ refused.reached in cc)
verdict_memory (Overloaded against) net good refused = absurd (let no = sym good.reached ∙ refused.reached in cc)
verdict_memory (Overflow place) net good refused = absurd (let no = sym good.reached ∙ refused in cc)
verdict_memory (PivotLimit j) net good refused = absurd (let no = sym good.reached ∙ refused in cc)
verdict_memory NoMemory net good refused = refl
verdict_memory outcome net good refused = absurd refused

unfinished : (outcome : Outcome) (net : Network) → IsUnfinished outcome net → IsUnadmitted outcome net
unfinished (Critical against) net is = absurd is
unfinished (Overloaded against) net is = absurd is
unfinished outcome net is = is

opening_memory : (outcome : Outcome) (net : Network) (cert : Cert) → IsRunnableCert net cert → IsUnopened outcome net cert → status_of outcome ≡ 12
opening_memory (Overflow at.Certificate) net cert good refused = absurd (let no = sym refused ∙ good.checked in cc)
opening_memory (Overflow at.Bound) net cert good refused = absurd (good.bounds.found refused.num refused.den refused.slack refused.is)
opening_memory (Overflow at.Room) net cert good refused = absurd (good.bounds.room refused.num refused.den refused.slack refused.is)
opening_memory NoMemory net cert good refused = refl
opening_memory outcome net cert good refused = absurd refused

session_memory : (outcome : Outcome) (net : Network) (cert : Cert) → IsRunnableCert net cert → IsUnaccepted outcome net cert → status_of outcome ≡ 12
session_memory (Certificate rule) net cert good refused = absurd (let no = sym refused.told ∙ good.checked in cc)
session_memory outcome net cert good refused = opening_memory outcome net cert good refused

cert_memory : (outcome : Outcome) (net : Network) (cert : Cert) → check_outcome net cert ≡ Ok tt → RefusesCert outcome net cert → status_of outcome ≡ 12
cert_memory (Certificate rule) net cert good refused = absurd (let no = sym refused.told ∙ good in cc)
cert_memory (Overflow at.Certificate) net cert good refused = absurd (let no = sym refused ∙ good in cc)
cert_memory outcome net cert good refused = absurd refused

-- a vector that speaks against the network is not all 0, and its load is not below
not_zero : (net : Network) (p : List ℤ) → ShowsOverload net (naturals p) ⊎ IsTight net (naturals p) → IsZero p → ⊥
not_zero net p (inl shows) zero = absurd (let some = shows.vector.some in omega (arith, some, no_sum net p zero))
not_zero net p (inr tight) zero = absurd (let some = tight.vector.some in omega (arith, some, no_sum net p zero))

not_weak : (net : Network) (p : List ℕ) → ShowsOverload net p ⊎ IsTight net p → load net (entry p) < net.per * capacity net (entry p) → ⊥
not_weak net p (inl shows) below = absurd (let above = shows.above in omega arith)
not_weak net p (inr tight) below = absurd (let equal = tight.equal in omega arith)

vector_memory : (outcome : Outcome) (net : Network) (p : List ℤ) → IsGoodVector net p → ShowsNothing outcome net p → status_of outcome ≡ 12
vector_memory ZeroVector net p good refused = absurd (not_zero net p good.shows refused)
vector_memory WeakVector net p good refused = absurd (not_weak net (naturals p) good.shows refused.1.below)
vector_memory (Overflow at.Vector) net p good refused = absurd (let no = sym refused.1 ∙ good.formed.1 in cc)
vector_memory outcome net p good refused = absurd refused

scaled_memory : (outcome : Outcome) (net : Network) (d : ℕ) (cert : Cert) → scaled net d ≡ Found cert → IsUnscaled outcome net d → status_of outcome ≡ 12
scaled_memory NoCertificate net d cert good refused = absurd (let no = sym good ∙ refused.0 in cc)
scaled_memory (Overflow (at.Game j)) net d cert good refused = absurd (let no = sym good ∙ refused in cc)
scaled_memory (PivotLimit j) net d cert good refused = absurd (let no = sym good ∙ refused in cc)
scaled_memory (SweepLimit e) net d cert good refused = absurd (let no = sym good ∙ refused in cc)
scaled_memory NoMemory net d cert good refused = refl
scaled_memory outcome net d cert good refused = absurd refused

overloaded_memory : (outcome : Outcome) (net : Network) → IsGrowing net → IsNotOverloaded outcome net → status_of outcome ≡ 12
overloaded_memory Admitted net good refused = absurd (let no = sym good.reached ∙ refused.reached in cc)
overloaded_memory (Critical against) net good refused = absurd (let no = sym good.reached ∙ refused.reached in cc)
overloaded_memory (Overflow place) net good refused = absurd (let no = sym good.reached ∙ refused in cc)
overloaded_memory (PivotLimit j) net good refused = absurd (let no = sym good.reached ∙ refused in cc)
overloaded_memory NoMemory net good refused = refl
overloaded_memory outcome net good refused = absurd refused

-- the vector of an overloaded network is the one of the stated calculation
of_overloaded : (net : Network) (P : List ℤ → Type 0) (good : IsGrowing net) → OfOverloaded net P → P good.vector
of_overloaded net P good found =
    let same : found.vector ≡ good.vector = (let e = sym found.shown.reached ∙ good.reached in cc) in
    subst P same found.is

told_memory : (outcome : Outcome) (net : Network) (good : IsGrowing net) → IsUntold outcome net good.vector → status_of outcome ≡ 12
told_memory (Uneven link) net good refused = absurd (let no = sym refused ∙ good.even in cc)
told_memory (Overflow at.Vector) net good refused = absurd (told_weighed net _ good.vector _ good.told.0 good.told.1 refused.1)
told_memory GrowthOverflow net good refused = absurd (let no = sym refused.2 ∙ good.told.1 in cc)
told_memory NoMemory net good refused = refl
told_memory outcome net good refused = absurd refused

finding_memory : (outcome : Outcome) (net : Network) (cycle lost d : ℕ) → IsGuardable net cycle lost d → IsUnguarded outcome net cycle lost d → status_of outcome ≡ 12
finding_memory NoGuard net cycle lost d good refused = absurd (let no = sym good.reached ∙ refused.0 in cc)
finding_memory (SweepLimit e) net cycle lost d good refused = absurd (let no = sym good.reached ∙ refused.1 in cc)
finding_memory (Overflow (at.Game j)) net cycle lost d good refused = absurd (let no = sym good.reached ∙ refused in cc)
finding_memory (PivotLimit j) net cycle lost d good refused = absurd (let no = sym good.reached ∙ refused in cc)
finding_memory (FullGuard j) net cycle lost d good refused = absurd (let no = sym good.reached ∙ refused in cc)
finding_memory NoMemory net cycle lost d good refused = refl
finding_memory outcome net cycle lost d good refused = absurd refused

-- the guard that is found is the one of the stated calculation
of_found : (net : Network) (cycle lost d : ℕ) (P : model.Guard → Type 0) (good : IsGuardable net cycle lost d) → OfFound net cycle lost d P → P good.guard
of_found net cycle lost d P good found =
    let same : found.guard ≡ good.guard = (let e = sym found.reached ∙ good.reached in cc) in
    subst P same found.is

bursts_memory : (outcome : Outcome) (net : Network) (guard : model.Guard) → ComeToRest net guard → HasNoBursts outcome net guard → status_of outcome ≡ 12
bursts_memory BurstLimit net guard rest refused = absurd (refused rest)
bursts_memory NoMemory net guard rest refused = refl
bursts_memory outcome net guard rest refused = absurd refused

-- what was written was written whole, where no write failed
written_done : (outcome : Outcome) (ports : Ports) (text : List ℕ) → IsQuiet outcome → Writes outcome ports text → EndsIn 0 outcome
written_done Done ports text quiet written = inl refl
written_done Write ports text quiet written = absurd (quiet.write refl)
written_done outcome ports text quiet written = absurd written

-- the certificate of an admitted network is the one of the stated calculation
of_admitted : (net : Network) (P : Cert → Type 0) (can : IsAdmittable net) → OfAdmitted net P → P can.cert
of_admitted net P can found =
    let same : found.cert ≡ can.cert = (let e = sym found.reached ∙ can.reached in cc) in
    subst P same found.is

-- where there is a frame network, a certificate of it can be run by frames, or a plan is made, no refusal is left
unframed_memory : (outcome : Outcome) (net : Network) (F : ℕ) → frame_fault net F ≡ None → IsUnframed outcome net F → status_of outcome ≡ 12
unframed_memory LongFrames net F good refused = absurd (let no = sym good ∙ refused in cc)
unframed_memory (FastFrames link) net F good refused = absurd (let no = sym good ∙ refused in cc)
unframed_memory NoMemory net F good refused = refl
unframed_memory outcome net F good refused = absurd refused

frames_memory : (outcome : Outcome) (net : Network) (F : ℕ) (cert : Cert) → IsRunnableFramesCert net F cert → IsUnopenedFrames outcome net F cert → status_of outcome ≡ 12
frames_memory (Overflow at.Certificate) net F cert good refused = absurd (let no = sym refused ∙ good.checked in cc)
frames_memory (Overflow at.Bound) net F cert good refused = absurd (good.found refused.num refused.den refused.slack refused.is)
frames_memory (Overflow at.Room) net F cert good refused = absurd (good.room refused.num refused.den refused.slack refused.is)
frames_memory NoMemory net F cert good refused = refl
frames_memory outcome net F cert good refused = absurd refused

plan_memory : (outcome : Outcome) (net : Network) (C : ℕ) → IsPlannable net C → IsUnplanned outcome net C → status_of outcome ≡ 12
plan_memory (CyclicPlan link) net C good refused = absurd (good.acyclic link refused)
plan_memory (Overflow at.Flow) net C good refused = absurd (good.flows refused)
plan_memory (FullPlan j) net C good refused = absurd (good.fits j refused)
plan_memory PlanOverflow net C good refused = absurd (good.found refused)
plan_memory NoMemory net C good refused = refl
plan_memory outcome net C good refused = absurd refused

-- a guard that keeps all rules and whose bursts come to rest is not refused
broken_memory : (outcome : Outcome) (net : Network) (guard : model.Guard) → model.Guards net guard → IsBrokenGuard outcome net guard → status_of outcome ≡ 12
broken_memory (BrokenGuard rule) net guard good refused = absurd (let no = (accepts net guard good.lengths (Err rule) refused).1 good in cc)
broken_memory outcome net guard good refused = absurd refused

-- what runs by frames and by plans tell of the stream alone
frames_read : (net : Network) (F : ℕ) (head : List ℕ) (ports : Ports) (how : RunEnd) → EndsOn (framed_course net F) head how ports → ReadTo net how ports.input_before ports.input_after
frames_read net F head ports how ends = arrivals_read net (framed_lines_from net F (framed_opening net)) (λ A. end_line net (framed_after net F (framed_opening net) A).state) head ports how ends

plan_reads : (net : Network) (plan : PlanOfModel) (head : List ℕ) (ports : Ports) (how : RunEnd) → EndsOn (plan_course net plan) head how ports → ReadTo net how ports.input_before ports.input_after
plan_reads net plan head ports how ends = arrivals_read net (planned_lines_from net plan (opening net)) (λ A. end_line net (planned_after net plan (opening net) A)) head ports how ends

guard_reads : (net : Network) (guard : model.Guard) (head : List ℕ) (ports : Ports) (how : RunEnd) → EndsOn (guarded_course net guard) head how ports → ReadTo net how ports.input_before ports.input_after
guard_reads net guard head ports how ends = arrivals_read net (guarded_lines_from net guard (guarded_opening net guard)) (λ A. end_line net (guarded_after net guard (guarded_opening net guard) A).state) head ports how ends

-- a command that can run a stream comes to its run
run_ends : (n : ℕ) (net : List ℕ) (P : Network → Type 0) (outcome : Outcome) (ports : Ports) → IsQuiet outcome → CanRun (Run net) ports.files P → Means (Run net) outcome ports
    → ((net : Network) → IsNetwork net → P net → (head : List ℕ) → OnEvents outcome (λ how. RunsTo net head how ports) → EndsIn n outcome) → EndsIn n outcome
run_ends n net P outcome ports quiet good means stream =
    goes n outcome means (network_memory outcome ports.files net _ quiet good) (λ reads.
    let on = of_good file_meaning ports.files net _ _ good reads in
    goes n outcome on.1 (verdict_memory outcome good.value good.is.0.admitted) (λ admitted.
    goes n outcome (of_admitted good.value _ good.is.0.admitted admitted) (opening_memory outcome good.value good.is.0.admitted.cert good.is.0.under) (λ opens.
    stream good.value on.0.network good.is.1 _ opens.holds.holds.is.1)))

run_with_ends : (n : ℕ) (net cert : List ℕ) (P : Network → Type 0) (outcome : Outcome) (ports : Ports) → IsQuiet outcome → CanRun (RunWith net cert) ports.files P → Means (RunWith net cert) outcome ports
    → ((net : Network) → IsNetwork net → P net → (head : List ℕ) → OnEvents outcome (λ how. RunsTo net head how ports) → EndsIn n outcome) → EndsIn n outcome
run_with_ends n net cert P outcome ports quiet good means stream =
    goes n outcome means (network_memory outcome ports.files net _ quiet good) (λ reads.
    let on = of_good file_meaning ports.files net _ _ good reads in
    goes n outcome on.1 (text_memory outcome _ (cert_meaning good.value) ports.files cert _ quiet good.is.0) (λ read.
    goes n outcome (of_good (cert_meaning good.value) ports.files cert _ _ good.is.0.file read) (session_memory outcome good.value good.is.0.file.value good.is.0.file.is) (λ opens.
    stream good.value on.0.network good.is.1 _ opens.holds.holds.is)))

frames_ends : (n : ℕ) (net : List ℕ) (F : ℕ) (P : Network → Type 0) (outcome : Outcome) (ports : Ports) → IsQuiet outcome → CanRun (Frames net F) ports.files P → Means (Frames net F) outcome ports
    → ((net : Network) → P net → OnRun outcome (λ how. ReadTo net how ports.input_before ports.input_after) → EndsIn n outcome) → EndsIn n outcome
frames_ends n net F P outcome ports quiet good means stream =
    goes n outcome means (network_memory outcome ports.files net _ quiet good) (λ reads.
    let on = of_good file_meaning ports.files net _ _ good reads in
    goes n outcome on.1 (unframed_memory outcome good.value F good.is.0.framed) (λ framed.
    goes n outcome framed.1 (verdict_memory outcome (frame_network good.value F) good.is.0.admitted) (λ admitted.
    goes n outcome (of_admitted (frame_network good.value F) _ good.is.0.admitted admitted) (frames_memory outcome good.value F good.is.0.admitted.cert good.is.0.under) (λ opens.
    stream good.value good.is.1 (on_run outcome _ _ (frames_read good.value F _ ports) opens.holds.is.1)))))

plan_ends : (n : ℕ) (net : List ℕ) (C : ℕ) (P : Network → Type 0) (outcome : Outcome) (ports : Ports) → IsQuiet outcome → CanRun (Plan net C) ports.files P → Means (Plan net C) outcome ports
    → ((net : Network) → P net → OnRun outcome (λ how. ReadTo net how ports.input_before ports.input_after) → EndsIn n outcome) → EndsIn n outcome
plan_ends n net C P outcome ports quiet good means stream =
    goes n outcome means (network_memory outcome ports.files net _ quiet good) (λ reads.
    let on = of_good file_meaning ports.files net _ _ good reads in
    goes n outcome on.1 (plan_memory outcome good.value C good.is.0) (λ holds.
    stream good.value good.is.1 (on_run outcome _ _ (plan_reads good.value holds.plan _ ports) holds.is)))

guard_ends : (n : ℕ) (net guard : List ℕ) (P : Network → Type 0) (outcome : Outcome) (ports : Ports) → IsQuiet outcome → CanRun (RunGuard net guard) ports.files P → Means (RunGuard net guard) outcome ports
    → ((net : Network) → P net → OnRun outcome (λ how. ReadTo net how ports.input_before ports.input_after) → EndsIn n outcome) → EndsIn n outcome
guard_ends n net guard P outcome ports quiet good means stream =
    goes n outcome means (network_memory outcome ports.files net _ quiet good) (λ reads.
    let on = of_good file_meaning ports.files net _ _ good reads in
    let given = good.is.0.file in
    goes n outcome on.1 (text_memory outcome _ (guard_meaning good.value) ports.files guard _ quiet good.is.0) (λ read.
    goes n outcome (of_good (guard_meaning good.value) ports.files guard _ _ given read) (broken_memory outcome good.value given.value given.is.0) (λ kept.
    goes n outcome kept.1 (bursts_memory outcome good.value given.value given.is.1) (λ runs.
    stream good.value good.is.1 (on_run outcome _ _ (guard_reads good.value given.value _ ports) runs.is)))))

-- a good stream is run to its end, and one above a bucket is refused as that
module _ (outcome : Outcome) (ports : Ports) (quiet : IsQuiet outcome) where
  good_run : (net : Network) → IsGoodStream net ports.input_before → OnRun outcome (λ how. ReadTo net how ports.input_before ports.input_after) → EndsIn 0 outcome
  good_run net stream ends = inl (good_stream net ports.input_before ports.input_after outcome quiet.read quiet.write stream ends)

  excessive_run : (net : Network) → IsExcessiveStream net ports.input_before → OnRun outcome (λ how. ReadTo net how ports.input_before ports.input_after) → EndsIn 8 outcome
  excessive_run net stream ends = inl (excessive_stream net ports.input_before ports.input_after outcome quiet.read quiet.write stream ends)

  good_event_run : (net : Network) → IsNetwork net → IsGoodStream net ports.input_before ⊎ IsWholeStream net ports.input_before → (head : List ℕ) → OnEvents outcome (λ how. RunsTo net head how ports) → EndsIn 0 outcome
  good_event_run net ok stream head runs = inl (good_events net head ports outcome quiet.read quiet.write ok stream runs)

  excessive_event_run : (net : Network) → IsNetwork net → IsExcessiveStream net ports.input_before ⊎ IsStreamAbove net ports.input_before → (head : List ℕ) → OnEvents outcome (λ how. RunsTo net head how ports) → EndsIn 8 outcome
  excessive_event_run net ok stream head runs = inl (excessive_events net head ports outcome quiet.read quiet.write ok stream runs)

-- an audit of a log that does not differ ends with a whole log
audited : (outcome : Outcome) (ports : Ports) (EndsSo : AuditEnd → Type 0) → IsQuiet outcome → ((n : ℕ) → EndsSo (ended.Differs n) → ⊥) → EndsAudit outcome ports EndsSo → EndsIn 0 outcome
audited (Differs n) ports EndsSo quiet never ends = absurd (never n ends.0)
audited Read ports EndsSo quiet never ends = absurd (quiet.read refl)
audited outcome ports EndsSo quiet never ends = written_done outcome ports (audit_line ends.periods) quiet ends.written

-- a whole log does not differ
no_difference : (net : Network) (P : ℕ → ℕ → Type 0) (num den : ℕ) (bounds : List ℕ) (left rest : Option (List ℕ)) → IsGoodLog net P left → P num den → AreBounds net num den bounds → (n : ℕ) → AuditsAs net num den bounds (ended.Differs n) left rest → ⊥
no_difference net P num den bounds left rest log is are n differs =
    let told = subst (λ (l : Option (List ℕ)). Tells l rest (λ text now. RenewedDiffersAt net num den bounds text n)) log.told differs in
    absurd (told.2.not_whole (log.whole num den bounds is are))

no_guarded_difference : (net : Network) (guard : model.Guard) (left rest : Option (List ℕ)) → IsGoodGuardedLog net guard left → (come : ComeToRest net guard) (n : ℕ)
    → AuditsGuarded net guard (guard_header net guard (bounds_of net guard come.surpluses come.bursts) (waits_of net guard)) (ended.Differs n) left rest → ⊥
no_guarded_difference net guard left rest log come n differs =
    let header = guard_header net guard (bounds_of net guard come.surpluses come.bursts) (waits_of net guard) in
    let told = subst (λ (l : Option (List ℕ)). Tells l rest (λ text now. GuardedDiffersAt net guard header text n)) log.told differs in
    absurd (told.2.not_whole (log.whole come))

pub completes : (command : Command) (outcome : Outcome) (ports : Ports) → IsQuiet outcome → IsGood command ports.files ports.input_before → Means command outcome ports → EndsIn 0 outcome
completes (Run net) outcome ports quiet good means = run_ends 0 net (λ n. IsGoodStream n ports.input_before ⊎ IsWholeStream n ports.input_before) outcome ports quiet good means (good_event_run outcome ports quiet)
completes (RunWith net cert) outcome ports quiet good means = run_with_ends 0 net cert (λ n. IsGoodStream n ports.input_before ⊎ IsWholeStream n ports.input_before) outcome ports quiet good means (good_event_run outcome ports quiet)
completes (Show net) outcome ports quiet good means =
    goes 0 outcome means (network_memory outcome ports.files net _ quiet good) (λ reads.
    goes 0 outcome reads.is.1 (λ is. ap status_of is) (λ shows. written_done outcome ports shows.text quiet shows.answers.1))
completes (Certify net) outcome ports quiet good means =
    goes 0 outcome means (network_memory outcome ports.files net _ quiet good) (λ reads.
    let on = of_good file_meaning ports.files net _ _ good reads in
    goes 0 outcome on.1 (verdict_memory outcome good.value good.is) (λ admitted. written_done outcome ports _ quiet admitted.is.answers.1))
completes (Check net cert) outcome ports quiet good means =
    goes 0 outcome means (network_memory outcome ports.files net _ quiet good) (λ reads.
    let on = of_good file_meaning ports.files net _ _ good reads in
    goes 0 outcome on.1 (text_memory outcome _ (cert_meaning good.value) ports.files cert _ quiet good.is) (λ read.
    goes 0 outcome (of_good (cert_meaning good.value) ports.files cert _ _ good.is.file read) (cert_memory outcome good.value good.is.file.value good.is.file.is) (λ accepts. written_done outcome ports _ quiet accepts.1.answers.1)))
completes (Refute net vector) outcome ports quiet good means =
    goes 0 outcome means (network_memory outcome ports.files net _ quiet good) (λ reads.
    let on = of_good file_meaning ports.files net _ _ good reads in
    goes 0 outcome on.1 (text_memory outcome _ (vector_meaning good.value) ports.files vector _ quiet good.is) (λ read.
    goes 0 outcome (of_good (vector_meaning good.value) ports.files vector _ _ good.is.file read) (vector_memory outcome good.value good.is.file.value good.is.file.is) (λ speaks.
    ⊎_elim (λ shows. written_done outcome ports _ quiet shows.answers.1) (λ tight. written_done outcome ports _ quiet tight.answers.1) speaks.1)))
completes (Audit net) outcome ports quiet good means =
    goes 0 outcome means (network_memory outcome ports.files net _ quiet good) (λ reads.
    let on = of_good file_meaning ports.files net _ _ good reads in
    goes 0 outcome on.1 (verdict_memory outcome good.value good.is.0.admitted) (λ admitted.
    goes 0 outcome (of_admitted good.value _ good.is.0.admitted admitted) (opening_memory outcome good.value good.is.0.admitted.cert good.is.0.under) (λ opens.
    let under = opens.holds.holds in
    audited outcome ports _ quiet (no_difference good.value (IsGreatestSlack good.value) opens.holds.num opens.holds.den under.bounds ports.input_before ports.input_after good.is.1 under.is.0 under.are) under.is.1)))
completes (AuditWith net cert) outcome ports quiet good means =
    goes 0 outcome means (network_memory outcome ports.files net _ quiet good) (λ reads.
    let on = of_good file_meaning ports.files net _ _ good reads in
    let given = good.is.file in
    goes 0 outcome on.1 (text_memory outcome _ (cert_meaning good.value) ports.files cert _ quiet good.is) (λ read.
    goes 0 outcome (of_good (cert_meaning good.value) ports.files cert _ _ given read) (session_memory outcome good.value given.value given.is.0) (λ opens.
    let under = opens.holds.holds in
    audited outcome ports _ quiet (no_difference good.value (IsSlack given.value) opens.holds.num opens.holds.den under.bounds ports.input_before ports.input_after given.is.1 opens.holds.slack under.are) under.is)))
completes (Control net) outcome ports quiet good means =
    goes 0 outcome means (network_memory outcome ports.files net _ quiet good) (λ reads.
    let on = of_good file_meaning ports.files net _ _ good reads in
    inl (good_input outcome good.value ports quiet.read quiet.write good.is on.1))
completes (Demo n) outcome ports quiet good means =
    goes 0 outcome means (λ is. verdict_memory outcome (demo_network n) good.admitted (unfinished outcome (demo_network n) is)) (λ admitted.
    goes 0 outcome (of_admitted (demo_network n) _ good.admitted admitted) (opening_memory outcome (demo_network n) good.admitted.cert good.under) (λ opens.
    written_done outcome ports _ quiet opens.holds.holds.is.1.answers.1))
completes (Scale net d) outcome ports quiet good means =
    goes 0 outcome means (network_memory outcome ports.files net _ quiet good) (λ reads.
    let on = of_good file_meaning ports.files net _ _ good reads in
    goes 0 outcome on.1 (scaled_memory outcome good.value d good.is.0 good.is.1) (λ found. written_done outcome ports _ quiet found.is.answers.1))
completes (Overload net) outcome ports quiet good means =
    goes 0 outcome means (network_memory outcome ports.files net _ quiet good) (λ reads.
    let on = of_good file_meaning ports.files net _ _ good reads in
    goes 0 outcome on.1 (overloaded_memory outcome good.value good.is) (λ found.
    goes 0 outcome (of_overloaded good.value _ good.is found) (told_memory outcome good.value good.is) (λ writes. written_done outcome ports _ quiet writes.2.answers.1)))
completes (Frames net F) outcome ports quiet good means = frames_ends 0 net F (λ n. IsGoodStream n ports.input_before) outcome ports quiet good means (good_run outcome ports quiet)
completes (Plan net C) outcome ports quiet good means = plan_ends 0 net C (λ n. IsGoodStream n ports.input_before) outcome ports quiet good means (good_run outcome ports quiet)
completes (Guard net cycle lost d) outcome ports quiet good means =
    goes 0 outcome means (network_memory outcome ports.files net _ quiet good) (λ reads.
    let on = of_good file_meaning ports.files net _ _ good reads in
    goes 0 outcome on.1 (finding_memory outcome good.value cycle lost d good.is) (λ found.
    goes 0 outcome (of_found good.value cycle lost d _ good.is found) (bursts_memory outcome good.value good.is.guard good.is.rest) (λ writes. written_done outcome ports _ quiet writes.1.answers.1)))
completes (ControlGuard net guard) outcome ports quiet good means =
    goes 0 outcome means (network_memory outcome ports.files net _ quiet good) (λ reads.
    let on = of_good file_meaning ports.files net _ _ good reads in
    let given = good.is.0.file in
    goes 0 outcome on.1 (text_memory outcome _ (guard_meaning good.value) ports.files guard _ quiet good.is.0) (λ read.
    goes 0 outcome (of_good (guard_meaning good.value) ports.files guard _ _ given read) (broken_memory outcome good.value given.value given.is.0) (λ kept.
    goes 0 outcome kept.1 (bursts_memory outcome good.value given.value given.is.1) (λ controls. inl (good_guarded outcome good.value given.value ports _ quiet.read quiet.write good.is.1 controls.is)))))
completes (RunGuard net guard) outcome ports quiet good means = guard_ends 0 net guard (λ n. IsGoodStream n ports.input_before) outcome ports quiet good means (good_run outcome ports quiet)
completes (AuditGuard net guard) outcome ports quiet good means =
    goes 0 outcome means (network_memory outcome ports.files net _ quiet good) (λ reads.
    let on = of_good file_meaning ports.files net _ _ good reads in
    let given = good.is.file in
    goes 0 outcome on.1 (text_memory outcome _ (guard_meaning good.value) ports.files guard _ quiet good.is) (λ read.
    goes 0 outcome (of_good (guard_meaning good.value) ports.files guard _ _ given read) (broken_memory outcome good.value given.value given.is.0.0) (λ kept.
    goes 0 outcome kept.1 (bursts_memory outcome good.value given.value given.is.0.1) (λ audits.
    audited outcome ports _ quiet (no_guarded_difference good.value given.value ports.input_before ports.input_after given.is.1 audits.rest) audits.is))))
completes Unknown outcome ports quiet good means = absurd good

pub exceeds : (command : Command) (outcome : Outcome) (ports : Ports) → IsQuiet outcome → IsExcessive command ports.files ports.input_before → Means command outcome ports → EndsIn 8 outcome
exceeds (Run net) outcome ports quiet given means = run_ends 8 net (λ n. IsExcessiveStream n ports.input_before ⊎ IsStreamAbove n ports.input_before) outcome ports quiet given means (excessive_event_run outcome ports quiet)
exceeds (RunWith net cert) outcome ports quiet given means = run_with_ends 8 net cert (λ n. IsExcessiveStream n ports.input_before ⊎ IsStreamAbove n ports.input_before) outcome ports quiet given means (excessive_event_run outcome ports quiet)
exceeds (Frames net F) outcome ports quiet given means = frames_ends 8 net F (λ n. IsExcessiveStream n ports.input_before) outcome ports quiet given means (excessive_run outcome ports quiet)
exceeds (Plan net C) outcome ports quiet given means = plan_ends 8 net C (λ n. IsExcessiveStream n ports.input_before) outcome ports quiet given means (excessive_run outcome ports quiet)
exceeds (RunGuard net guard) outcome ports quiet given means = guard_ends 8 net guard (λ n. IsExcessiveStream n ports.input_before) outcome ports quiet given means (excessive_run outcome ports quiet)
exceeds command outcome ports quiet given means = absurd given
