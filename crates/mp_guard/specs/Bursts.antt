-- The bursts that a bounded number of sweeps finds.
use Rattle.std.specs.Prelude.{◌≡◌, ◌<◌, ℕ, List, map, ◌*◌}
use Rattle.mp_model.specs.Guard.{Guard, red}
use Rattle.mp_model.specs.GuardedBursts.{swept, AreAtRest, guarded_bound}
use Rattle.mp_model.specs.Network.{Network, movement_numbers, entry}
use Rattle.mp_guard.specs.Surpluses.{AreSurpluses}
use Rattle.mp_guard.specs.declared.sweeping.TheConstants.{MOST_SWEEPS}

-- The bursts are those after some sweeps of a list of zeros, so many that one more is still tried, and that one leaves them as they are.
pub record AreBursts (net : Network) (guard : Guard) (surpluses bursts : List ℕ) : Type 0 where
  pub sweeps : ℕ
  pub few : sweeps < MOST_SWEEPS
  pub found : bursts ≡ swept net guard (entry surpluses) sweeps
  pub rest : AreAtRest net guard (entry surpluses) bursts

-- None of the first sweeps leaves its list as it is.
abbrev pub NoneRests : Network → Guard → List ℕ → Type 0
NoneRests net guard surpluses = (n : ℕ) → n < MOST_SWEEPS → ¬ AreAtRest net guard (entry surpluses) (swept net guard (entry surpluses) n)

-- The bursts of a guard come to rest: under the surpluses of the network there are bursts after some sweeps.
pub record ComeToRest (net : Network) (guard : Guard) : Type 0 where
  pub surpluses : List ℕ
  pub are : AreSurpluses net surpluses
  pub bursts : List ℕ
  pub found : AreBursts net guard surpluses bursts

-- These are the bounds of all movements under these bursts.
abbrev pub bounds_of : Network → Guard → List ℕ → List ℕ → List ℕ
bounds_of net guard surpluses bursts = map (guarded_bound net guard (entry surpluses) bursts) (movement_numbers net)

-- These are the waits of all movements, in periods.
abbrev pub waits_of : Network → Guard → List ℕ
waits_of net guard = map (λ k. 2 * red net guard k) (movement_numbers net)
