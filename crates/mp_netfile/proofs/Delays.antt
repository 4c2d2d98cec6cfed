-- Facts of networks, by cases of their delay.
use Rattle.std.proofs.Common.{ℕ, zero, suc}
use Rattle.mp_model.specs.Network.{Network}

-- a network with another delay
abbrev pub delayed : Network → ℕ → Network
delayed net n = record { shares = net.shares; per = net.per; delay = n; links = net.links; movements = net.movements; junctions = net.junctions }

pub by_delay : (P : Network → Type 0) (net : Network) → P (delayed net 0) → ((n : ℕ) → P (delayed net (suc n))) → P net
by_delay P net none some = go net.delay
  where
    go : (n : ℕ) → P (delayed net n)
    go zero = none
    go (suc n) = some n
