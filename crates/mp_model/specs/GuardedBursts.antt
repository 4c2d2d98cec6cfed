-- The bursts and bounds that a guard prints: the least, found by sweeps.
use Rattle.std.specs.Prelude.{◌≡◌, ℕ, zero, suc, ◌+◌, ◌-◌, ◌*◌, ◌/◌, List, map}
use Rattle.mp_model.specs.Guard.{Guard, crowd, guarded_rate, red}
use Rattle.mp_model.specs.Network.{Network, movement_numbers, start_of}

-- This is the quotient of two numbers, rounded up.
abbrev pub quotient_up : ℕ → ℕ → ℕ
quotient_up x y = (x + (y - 1)) / y

-- This is the least number of vehicles that holds the start queue of movement k, those that may come at once, and those that come at its rate in so many periods.
abbrev pub least_holding : Network → Guard → ℕ → List ℕ → ℕ → ℕ → ℕ
least_holding net guard surplus bursts k periods =
    start_of net k + quotient_up (crowd net guard surplus bursts k + net.shares * guarded_rate guard k * periods) (net.shares * guard.denominator)

-- A sweep forms the burst of each movement from those of the sweep before.
abbrev pub sweep : Network → Guard → (ℕ → ℕ) → List ℕ → List ℕ
sweep net guard surplus bursts = map (λ k. least_holding net guard (surplus k) bursts k (2 * red net guard k)) (movement_numbers net)

-- These are the bursts after so many sweeps of a list of zeros.
abbrev pub swept : Network → Guard → (ℕ → ℕ) → ℕ → List ℕ
swept net guard surplus zero = map (λ k. 0) (movement_numbers net)
swept net guard surplus (suc n) = sweep net guard surplus (swept net guard surplus n)

-- The bursts are at rest where a sweep leaves them as they are.
abbrev pub AreAtRest : Network → Guard → (ℕ → ℕ) → List ℕ → Type 0
AreAtRest net guard surplus bursts = sweep net guard surplus bursts ≡ bursts

-- This is the bound that a guard prints for movement k under these bursts.
abbrev pub guarded_bound : Network → Guard → (ℕ → ℕ) → List ℕ → ℕ → ℕ
guarded_bound net guard surplus bursts k = least_holding net guard (surplus k) bursts k (1 + 2 * red net guard k)
