-- The laws on what passes under a guard, and on the bound of each queue.
use Rattle.std.specs.Prelude.{◌≤◌, ◌<◌, ℕ, ◌+◌, ◌*◌, List}
use Rattle.std.specs.List.{AllByRecursion}
use Rattle.mp_model.specs.Arrivals.{IsPermitted}
use Rattle.mp_model.specs.Guard.{Guard, Guards, CarryBursts, Holds, guarded_rate, red}
use Rattle.mp_model.specs.GuardedRun.{Play, KeepsGuard, guarded_state, lights_of}
use Rattle.mp_model.specs.Lights.{lit_arrivals}
use Rattle.mp_model.specs.Network.{Network, movement_numbers, entry}
use Rattle.mp_model.specs.NetworkRules.{IsNetwork}
use Rattle.mp_model.specs.Step.{queue}
use Rattle.mp_served.specs.Bounds.{total, passes_at}

-- The arrivals of the first T periods are permitted, and in each of them the junctions keep to the guard, by whatever counts.
pub record IsGuarded (net : Network) (guard : Guard) (play : Play) (T : ℕ) : Type 0 where
  pub permitted : IsPermitted net (lit_arrivals (lights_of net guard play) T)
  pub keeps : (t : ℕ) → t < T → KeepsGuard net guard play t

-- What movement k passes in any n periods is, times the denominator, at most its burst times the denominator and its rate for each of them.
abbrev pub GuardedPassingLaw : Type 0
GuardedPassingLaw = (net : Network) → IsNetwork net → (guard : Guard) → Guards net guard → (surplus : ℕ → ℕ) (bursts : List ℕ) → CarryBursts net guard surplus bursts → (play : Play) (T : ℕ) → IsGuarded net guard play T →
    (a n : ℕ) → a + n ≤ T → AllByRecursion (λ k. guard.denominator * total (passes_at net (lights_of net guard play) k) a n ≤ guard.denominator * entry bursts k + n * guarded_rate guard k) (movement_numbers net)

-- At each beginning the queue of movement k is at most each number that holds the bursts before it and what comes at its rate in twice its red periods and one more.
abbrev pub GuardedBoundLaw : Type 0
GuardedBoundLaw = (net : Network) → IsNetwork net → (guard : Guard) → Guards net guard → (surplus : ℕ → ℕ) (bursts : List ℕ) → CarryBursts net guard surplus bursts → (play : Play) (T : ℕ) → IsGuarded net guard play T →
    (t : ℕ) → t ≤ T → AllByRecursion (λ k. (bound : ℕ) → Holds net guard (surplus k) bursts k (1 + 2 * red net guard k) bound → queue (guarded_state net guard play t) k ≤ bound) (movement_numbers net)
