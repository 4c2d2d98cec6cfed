-- What `auditguard` promises.
use Rattle.std.specs.Prelude.{ℕ, List}
use Rattle.mp_guard_audit.specs.Auditing.{AuditsGuarded}
use Rattle.mp_model.specs.Guard as model
use Rattle.mp_model.specs.Network.{Network}
use Rattle.mp_cli.specs.declared.outcome.Outcome.{Outcome}
use Rattle.mp_cli.specs.Auditing.{EndsAudit, EndsWhole}
use Rattle.mp_cli.specs.GuardControlling.{IsBrokenGuard}
use Rattle.mp_cli.specs.GuardRunning.{RunsUnder}
use Rattle.mp_cli.specs.Guarding.{HasNoBursts}
use Rattle.mp_cli.specs.Opening.{OnNetwork, OnGuard}
use Rattle.mp_cli.specs.Ports.{Ports, RefusedOr}

-- The input was a whole log under the guard, and its line was put.
abbrev pub IsShownWholeUnder : Outcome → Network → model.Guard → Ports → List (List ℕ) → Type 0
IsShownWholeUnder outcome net guard ports header = EndsWhole outcome ports (λ how. AuditsGuarded net guard header how ports.input_before ports.input_after)

-- The input was compared with the log under the guard.
abbrev pub ComparesGuarded : Outcome → Network → model.Guard → Ports → List (List ℕ) → Type 0
ComparesGuarded outcome net guard ports header = EndsAudit outcome ports (λ how. AuditsGuarded net guard header how ports.input_before ports.input_after)

-- This is what each outcome says of an audit under a guard that keeps all rules: its bursts are not found, or the input was compared.
abbrev pub AuditsBy : Outcome → Network → model.Guard → Ports → Type 0
AuditsBy outcome net guard ports = RefusedOr (HasNoBursts outcome net guard) ports (RunsUnder net guard (ComparesGuarded outcome net guard ports))

-- This is what each outcome says of `auditguard`: on the network of the file, whatever its rates, under the guard of the other file, as it keeps all rules, the input was compared with the log under it.
abbrev pub AuditsUnderGuard : Outcome → List ℕ → List ℕ → Ports → Type 0
AuditsUnderGuard outcome name other ports =
    OnNetwork outcome name ports (λ net.
    OnGuard outcome net other ports (λ guard.
    RefusedOr (IsBrokenGuard outcome net guard) ports (model.Guards net guard × AuditsBy outcome net guard ports)))
