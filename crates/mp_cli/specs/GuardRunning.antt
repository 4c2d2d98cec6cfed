-- What `runguard` promises.
use Rattle.std.specs.Prelude.{ℕ, List}
use Rattle.mp_model.specs.Arrivals.{IsPermitted}
use Rattle.mp_model.specs.Guard as model
use Rattle.mp_model.specs.Log.{text_of}
use Rattle.mp_model.specs.Network.{Network}
use Rattle.mp_guard.specs.Bursts.{ComeToRest, bounds_of, waits_of}
use Rattle.mp_guard.specs.GuardHeader.{guard_header}
use Rattle.mp_guard_control.specs.Kept.{StagesKeep}
use Rattle.mp_guard_audit.specs.GuardedLog.{guarded_log_lines}
use Rattle.mp_guard_run.specs.Running.{GuardKeepsWaits, GuardStaysWithin, guarded_course}
use Rattle.mp_cli.specs.declared.outcome.Outcome.{Outcome}
use Rattle.mp_cli.specs.GuardControlling.{IsBrokenGuard}
use Rattle.mp_cli.specs.GuardedStages.{StagesAreGreatest}
use Rattle.mp_cli.specs.Guarding.{HasNoBursts}
use Rattle.mp_cli.specs.Opening.{OnNetwork, OnGuard}
use Rattle.mp_cli.specs.Ports.{Ports, RefusedOr}
use Rattle.mp_cli.specs.Streaming.{EndsOn, OnRun, PutsLog}

-- The guard guards the network, and its bursts come to rest; in the guarded run over any arrivals each junction takes the greatest candidate, or the stage that stays, and no movement with somebody waiting is without green longer than its wait; over all permitted arrivals no queue of it exceeds its bound; by any counts of which a 0 is true, those of the queues among them, nobody waits longer than the waits; and the fact is true of the lines of the header.
pub record RunsUnder (net : Network) (guard : model.Guard) (P : List (List ℕ) → Type 0) : Type 0 where
  pub guards : model.Guards net guard
  pub rest : ComeToRest net guard
  pub stages : StagesAreGreatest net guard
  pub waits : (A : List (List ℕ)) → GuardKeepsWaits net guard (waits_of net guard) A
  pub within : (A : List (List ℕ)) → IsPermitted net A → GuardStaysWithin net guard (bounds_of net guard rest.surpluses rest.bursts) A
  pub keeps : StagesKeep net guard
  pub is : P (guard_header net guard (bounds_of net guard rest.surpluses rest.bursts) (waits_of net guard))

-- The log under a guard is the text of its lines: the header, the lines of the guarded run, and the end line.
abbrev pub guarded_log : Network → model.Guard → List (List ℕ) → List (List ℕ) → List ℕ
guarded_log net guard header A = text_of (guarded_log_lines net guard header A)

-- The stream was run under the guard to this end behind the header.
abbrev pub StreamsGuarded : Outcome → Network → model.Guard → Ports → List (List ℕ) → Type 0
StreamsGuarded outcome net guard ports header = OnRun outcome (λ how. EndsOn (guarded_course net guard) (text_of header) how ports)

-- The log of the run under the guard was put.
abbrev pub WritesGuardedLog : Network → model.Guard → Ports → List (List ℕ) → Type 0
WritesGuardedLog net guard ports header = PutsLog net (guarded_log net guard header) ports

-- This is what each outcome says of the run under a guard that keeps all rules: its bursts are not found, or the stream was run.
abbrev pub RunsBy : Outcome → Network → model.Guard → Ports → Type 0
RunsBy outcome net guard ports = RefusedOr (HasNoBursts outcome net guard) ports (RunsUnder net guard (StreamsGuarded outcome net guard ports))

-- This is what each outcome says of `runguard`: on the network of the file, whatever its rates, under the guard of the other file, as it keeps all rules, the stream was run.
abbrev pub RunsGuarded : Outcome → List ℕ → List ℕ → Ports → Type 0
RunsGuarded outcome name other ports =
    OnNetwork outcome name ports (λ net.
    OnGuard outcome net other ports (λ guard.
    RefusedOr (IsBrokenGuard outcome net guard) ports (model.Guards net guard × RunsBy outcome net guard ports)))
