-- What the status of the top call says of the words, the files, the input and the outputs.
use Rattle.std.specs.Prelude.{◌≡◌, ◌⊎◌, ◌++◌, ℕ, List, Option}
use Rattle.mp_edge.specs.Outside.{Tells, Rose, GainsPrefix}
use Rattle.mp_cli.specs.declared.outcome.Outcome.{Outcome}
use Rattle.mp_cli.specs.declared.outcome.Outcome.TheVariants.{Words}
use Rattle.mp_cli.specs.Commands.{Command, Run, RunWith, Show, Certify, Check, Refute, Audit, AuditWith, Control, Demo, Scale, Overload, Frames, Plan, Guard, ControlGuard, RunGuard, AuditGuard, Unknown, command_of}
use Rattle.mp_cli.specs.Ports.{Ports, IsUntouched}
use Rattle.mp_cli.specs.Running.{Runs}
use Rattle.mp_cli.specs.RunningWith.{RunsWith}
use Rattle.mp_cli.specs.Showing.{Shows}
use Rattle.mp_cli.specs.Certifying.{FindsCertificate}
use Rattle.mp_cli.specs.Checking.{Checks}
use Rattle.mp_cli.specs.Refuting.{Refutes}
use Rattle.mp_cli.specs.Auditing.{Audits}
use Rattle.mp_cli.specs.AuditingWith.{AuditsWith}
use Rattle.mp_cli.specs.Controlling.{Controls}
use Rattle.mp_cli.specs.Demonstrating.{Demonstrates}
use Rattle.mp_cli.specs.Scaling.{Scales}
use Rattle.mp_cli.specs.Overloading.{Overloads}
use Rattle.mp_cli.specs.Framing.{RunsFrames}
use Rattle.mp_cli.specs.Planning.{RunsPlan}
use Rattle.mp_cli.specs.Guarding.{FindsGuard}
use Rattle.mp_cli.specs.GuardControlling.{ControlsGuarded}
use Rattle.mp_cli.specs.GuardRunning.{RunsGuarded}
use Rattle.mp_cli.specs.GuardAuditing.{AuditsUnderGuard}
use Rattle.mp_cli.specs.Statuses.{status_of}
use Rattle.mp_cli.specs.Messages.{message_of}

-- This is what each outcome says of a command.
abbrev pub Means : Command → Outcome → Ports → Type 0
Means (Run net) outcome ports = Runs outcome net ports
Means (RunWith net cert) outcome ports = RunsWith outcome net cert ports
Means (Show net) outcome ports = Shows outcome net ports
Means (Certify net) outcome ports = FindsCertificate outcome net ports
Means (Check net cert) outcome ports = Checks outcome net cert ports
Means (Refute net vector) outcome ports = Refutes outcome net vector ports
Means (Audit net) outcome ports = Audits outcome net ports
Means (AuditWith net cert) outcome ports = AuditsWith outcome net cert ports
Means (Control net) outcome ports = Controls outcome net ports
Means (Demo n) outcome ports = Demonstrates outcome n ports
Means (Scale net d) outcome ports = Scales outcome net d ports
Means (Overload net) outcome ports = Overloads outcome net ports
Means (Frames net f) outcome ports = RunsFrames outcome net f ports
Means (Plan net c) outcome ports = RunsPlan outcome net c ports
Means (Guard net cycle lost d) outcome ports = FindsGuard outcome net cycle lost d ports
Means (ControlGuard net guard) outcome ports = ControlsGuarded outcome net guard ports
Means (RunGuard net guard) outcome ports = RunsGuarded outcome net guard ports
Means (AuditGuard net guard) outcome ports = AuditsUnderGuard outcome net guard ports
Means Unknown outcome ports = (outcome ≡ Words) × IsUntouched ports

-- An error output has what it held before and after a call, where it tells, and its count of faults before and after.
pub record ErrorOutput : Type 0 where
  pub before : Option (List ℕ)
  pub after : Option (List ℕ)
  pub faults_before : ℕ
  pub faults_after : ℕ

-- The line of the outcome was put on the error output, or a prefix of it where its count of faults rose; and nothing where there is no line.
abbrev pub Reports : Command → Outcome → ErrorOutput → Type 0
Reports command outcome err =
    Tells err.before err.after (λ old new. new ≡ old ++ message_of command outcome) ⊎ (Rose err.faults_before err.faults_after × Tells err.before err.after (GainsPrefix (message_of command outcome)))

-- The top call ends with the status of an outcome, which is so, and whose line was reported.
pub record IsEnd (status : ℕ) (words : List (List ℕ)) (ports : Ports) (err : ErrorOutput) : Type 0 where
  pub outcome : Outcome
  pub status_is : status ≡ status_of outcome
  pub means : Means (command_of words) outcome ports
  pub reports : Reports (command_of words) outcome err
