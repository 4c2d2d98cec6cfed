-- What `guard` promises.
use Rattle.std.specs.Prelude.{◌≡◌, ℕ, List}
use Rattle.mp_flow.specs.declared.network.Place.TheVariants as at
use Rattle.mp_model.specs.Guard as model
use Rattle.mp_model.specs.Network.{Network, entry}
use Rattle.mp_finder.specs.Finding.{finding, Guarded, NoRates, EndlessSweeps, PassesAt, LimitAt, FullAt, AreLeast, HasNoGuard, IsAsked}
use Rattle.mp_guard.specs.Bursts.{ComeToRest}
use Rattle.mp_guard.specs.GuardText.{guard_text}
use Rattle.mp_guard.specs.Surpluses.{AreSurpluses}
use Rattle.mp_guarded.specs.Sweeps.{AreLeastBursts}
use Rattle.mp_cli.specs.declared.outcome.Outcome.{Outcome}
use Rattle.mp_cli.specs.declared.outcome.Outcome.TheVariants.{NoGuard, FullGuard, BurstLimit, Overflow, PivotLimit, SweepLimit, NoMemory}
use Rattle.mp_cli.specs.Opening.{OnNetwork}
use Rattle.mp_cli.specs.Ports.{Ports, Answers, RefusedOr}

-- Under a guard there are least bursts that carry those before them, by the surpluses of the network.
pub record HasLeastBursts (net : Network) (guard : model.Guard) : Type 0 where
  pub surpluses : List ℕ
  pub are : AreSurpluses net surpluses
  pub bursts : List ℕ
  pub least : AreLeastBursts net guard (entry surpluses) bursts

-- A guard with the cycle, the lost periods and the denominator keeps all rules, with the least rates of all such guards; under it there are least bursts; and its text was put.
pub record WritesGuard (outcome : Outcome) (net : Network) (cycle lost d : ℕ) (ports : Ports) (guard : model.Guard) : Type 0 where
  pub numbers : IsAsked cycle lost d guard
  pub guards : model.Guards net guard
  pub least : AreLeast net d guard.rates
  pub bursts : HasLeastBursts net guard
  pub answers : Answers outcome ports (guard_text guard)

-- The stated calculation finds a guard, and the fact is true of it.
pub record OfFound (net : Network) (cycle lost d : ℕ) (P : model.Guard → Type 0) : Type 0 where
  pub guard : model.Guard
  pub reached : finding net cycle lost d ≡ Guarded guard
  pub is : P guard

-- No guard is found: none has the denominator, the sweeps of the trial don't end, a calculation at a junction exceeds 128 bits or comes to its limit of turns, the greens of a junction don't fit into the cycle, or memory ran out.
abbrev pub IsUnguarded : Outcome → Network → ℕ → ℕ → ℕ → Type 0
IsUnguarded NoGuard net cycle lost d = (finding net cycle lost d ≡ NoRates) × HasNoGuard net d
IsUnguarded (SweepLimit e) net cycle lost d = (e ≡ 0) × (finding net cycle lost d ≡ EndlessSweeps)
IsUnguarded (Overflow (at.Game j)) net cycle lost d = finding net cycle lost d ≡ PassesAt j
IsUnguarded (PivotLimit j) net cycle lost d = finding net cycle lost d ≡ LimitAt j
IsUnguarded (FullGuard j) net cycle lost d = finding net cycle lost d ≡ FullAt j
IsUnguarded NoMemory net cycle lost d = Unit {0}
IsUnguarded outcome net cycle lost d = ⊥

-- The bursts of a guard are not found: they don't come to rest, or memory ran out.
abbrev pub HasNoBursts : Outcome → Network → model.Guard → Type 0
HasNoBursts BurstLimit net guard = ¬ ComeToRest net guard
HasNoBursts NoMemory net guard = Unit {0}
HasNoBursts outcome net guard = ⊥

-- This is what each outcome says of `guard`: on the network of the file, the text of the guard that is found was put, as its bursts come to rest.
abbrev pub FindsGuard : Outcome → List ℕ → ℕ → ℕ → ℕ → Ports → Type 0
FindsGuard outcome name cycle lost d ports =
    OnNetwork outcome name ports (λ net.
    RefusedOr (IsUnguarded outcome net cycle lost d) ports (OfFound net cycle lost d (λ guard.
    RefusedOr (HasNoBursts outcome net guard) ports (ComeToRest net guard × WritesGuard outcome net cycle lost d ports guard))))
