-- What `controlguard` promises.
use Rattle.std.specs.Prelude.{◌≡◌, ℕ, List}
use Rattle.mp_control.specs.declared.driving.ControlEnd.{ControlEnd}
use Rattle.mp_control.specs.declared.driving.ControlEnd.TheVariants.{Done, Read, Write, LineLimit, Long, Grammar}
use Rattle.mp_model.specs.Guard as model
use Rattle.mp_model.specs.Log.{text_of}
use Rattle.mp_model.specs.Network.{Network}
use Rattle.mp_guard.specs.Bursts.{ComeToRest, bounds_of, waits_of}
use Rattle.mp_guard.specs.Checking.{IsFirstBroken, rules_of}
use Rattle.mp_guard.specs.GuardHeader.{guard_header}
use Rattle.mp_guard_control.specs.Accounts.{guarded_controller}
use Rattle.mp_guard_control.specs.Driving.{EndsAs}
use Rattle.mp_guard_control.specs.Kept.{CountsKeepWaits, StagesKeep}
use Rattle.mp_run.specs.declared.run.RunEnd.TheVariants as run
use Rattle.mp_cli.specs.declared.outcome.Outcome.{Outcome}
use Rattle.mp_cli.specs.declared.outcome.Outcome.TheVariants.{Run, BrokenGuard}
use Rattle.mp_cli.specs.Guarding.{HasNoBursts}
use Rattle.mp_cli.specs.Opening.{OnNetwork, OnGuard}
use Rattle.mp_cli.specs.Ports.{Ports, RefusedOr}

-- The guard breaks the rule, and none before it.
abbrev pub IsBrokenGuard : Outcome → Network → model.Guard → Type 0
IsBrokenGuard (BrokenGuard rule) net guard = IsFirstBroken net guard (rules_of net) rule
IsBrokenGuard outcome net guard = ⊥

-- This is the text of the header of a guard, by the bursts that come to rest.
abbrev pub header_at : (net : Network) (guard : model.Guard) → ComeToRest net guard → List ℕ
header_at net guard rest = text_of (guard_header net guard (bounds_of net guard rest.surpluses rest.bursts) (waits_of net guard))

-- The text is the header of a guard by some bursts that come to rest.
pub record IsHeader (net : Network) (guard : model.Guard) (text : List ℕ) : Type 0 where
  pub rest : ComeToRest net guard
  pub is : text ≡ header_at net guard rest

-- The guard guards the network, and its bursts come to rest; by any counts of which a 0 is true, and over any permitted arrivals, no queue is above its bound and none with somebody waiting is without green longer than its wait; by any counts, true or not, no movement of which somebody is counted is; and the fact is true of the header.
pub record ControlsUnder (net : Network) (guard : model.Guard) (P : List ℕ → Type 0) : Type 0 where
  pub guards : model.Guards net guard
  pub rest : ComeToRest net guard
  pub keeps : StagesKeep net guard
  pub waits : CountsKeepWaits net guard
  pub is : P (header_at net guard rest)

-- The controller under a guard ended so on the input and the output, behind a header.
abbrev pub GuardedEnds : Network → model.Guard → ControlEnd → Ports → List ℕ → Type 0
GuardedEnds net guard end ports header = EndsAs net (guarded_controller net guard header) end ports.input_before ports.input_after ports.output_before ports.output_after

-- This is what each outcome says of the controller under a guard.
abbrev pub GuardedOn : Outcome → Network → model.Guard → Ports → List ℕ → Type 0
GuardedOn (Run run.Done) net guard ports header = GuardedEnds net guard Done ports header
GuardedOn (Run run.Read) net guard ports header = GuardedEnds net guard Read ports header
GuardedOn (Run run.Write) net guard ports header = GuardedEnds net guard Write ports header
GuardedOn (Run run.LineLimit) net guard ports header = GuardedEnds net guard LineLimit ports header
GuardedOn (Run (run.Long n)) net guard ports header = GuardedEnds net guard (Long n) ports header
GuardedOn (Run (run.Grammar n)) net guard ports header = GuardedEnds net guard (Grammar n) ports header
GuardedOn outcome net guard ports header = ⊥

-- This is what each outcome says of the control under a guard that keeps all rules: its bursts are not found, or the lines of the input were answered.
abbrev pub ControlsBy : Outcome → Network → model.Guard → Ports → Type 0
ControlsBy outcome net guard ports = RefusedOr (HasNoBursts outcome net guard) ports (ControlsUnder net guard (GuardedOn outcome net guard ports))

-- This is what each outcome says of `controlguard`: on the network of the file, whatever its rates, under the guard of the other file, as it keeps all rules, the lines of the input were answered.
abbrev pub ControlsGuarded : Outcome → List ℕ → List ℕ → Ports → Type 0
ControlsGuarded outcome name other ports =
    OnNetwork outcome name ports (λ net.
    OnGuard outcome net other ports (λ guard.
    RefusedOr (IsBrokenGuard outcome net guard) ports (model.Guards net guard × ControlsBy outcome net guard ports)))
