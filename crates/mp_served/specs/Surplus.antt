-- The law on surpluses: one round of the split decides.
use Rattle.std.specs.Prelude.{◌≤◌, ◌<◌, ℕ, ◌+◌, ◌*◌}
use Rattle.std.specs.List.{AllByRecursion}
use Rattle.mp_model.specs.Lights.{HasSurplus}
use Rattle.mp_model.specs.Network.{Network, movement_numbers, from_of, share_of}
use Rattle.mp_model.specs.NetworkRules.{IsNetwork}
use Rattle.mp_model.specs.Step.{joined}

-- Of fewer than a round of vehicles, behind fewer than a round, movement k gets at most its share and this surplus.
abbrev pub HasRoundSurplus : Network → ℕ → ℕ → Type 0
HasRoundSurplus net k surplus = (n r : ℕ) → n < net.shares → r < net.shares → net.shares * joined net (from_of net k) (n + r) k ≤ net.shares * joined net (from_of net k) n k + share_of net k * r + surplus

-- What holds within a round holds of all vehicles.
abbrev pub SurplusLaw : Type 0
SurplusLaw = (net : Network) → IsNetwork net → AllByRecursion (λ k. (surplus : ℕ) → HasRoundSurplus net k surplus → HasSurplus net k surplus) (movement_numbers net)
