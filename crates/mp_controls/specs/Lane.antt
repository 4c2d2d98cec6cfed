-- Networks that the controls are computed at.
use Rattle.std.specs.Prelude.{ℕ, [], ◌∷◌, None, codes, pos}
use Rattle.mp_model.specs.Network.{Network}
use Rattle.mp_model.specs.Certificate.{Cert}

-- One lane has no burst, and at most one vehicle of it leaves the network in a period.
abbrev pub lane : ℕ → ℕ → Network
lane per rate = record {
  shares = 1;
  per = per;
  delay = 0;
  links = record { name = codes "x"; burst = 0; rate = rate } ∷ [];
  movements = record { name = codes "xo"; from = 1; to = None; share = 1; flow = 1; start = 0 } ∷ [];
  junctions = record { name = codes "j"; stages = (1 ∷ []) ∷ [] } ∷ [];
}

-- The still lane has no rate, and nothing ever enters it.
abbrev pub still_lane : Network
still_lane = lane 1 0

-- This certificate has its greatest slack, 1.
abbrev pub still_cert : Cert
still_cert = record { d = pos 1; e = pos 1; h = pos 1 ∷ []; mixes = record { whole = pos 1; parts = pos 1 ∷ [] } ∷ [] }

-- The slow lane has a rate of one vehicle in two periods.
abbrev pub slow_lane : Network
slow_lane = lane 2 1

-- This certificate has its greatest slack, 1/2.
abbrev pub slow_cert : Cert
slow_cert = record { d = pos 2; e = pos 1; h = pos 2 ∷ []; mixes = record { whole = pos 1; parts = pos 2 ∷ [] } ∷ [] }

-- The empty network has no links, movements or junctions.
abbrev pub empty_network : Network
empty_network = record { shares = 1; per = 1; delay = 0; links = []; movements = []; junctions = [] }

-- Three approaches of a junction take turns.
abbrev pub three_approaches : Network
three_approaches = record {
  shares = 1;
  per = 4;
  delay = 0;
  links = record { name = codes "a"; burst = 1; rate = 1 } ∷ record { name = codes "b"; burst = 1; rate = 1 } ∷ record { name = codes "c"; burst = 1; rate = 1 } ∷ [];
  movements = record { name = codes "ao"; from = 1; to = None; share = 1; flow = 2; start = 0 } ∷ record { name = codes "bo"; from = 2; to = None; share = 1; flow = 2; start = 0 } ∷ record { name = codes "co"; from = 3; to = None; share = 1; flow = 2; start = 0 } ∷ [];
  junctions = record { name = codes "j"; stages = (1 ∷ []) ∷ (2 ∷ []) ∷ (3 ∷ []) ∷ [] } ∷ [];
}

-- This certificate has their greatest slack, 5/12.
abbrev pub three_approaches_cert : Cert
three_approaches_cert = record { d = pos 12; e = pos 5; h = pos 8 ∷ pos 8 ∷ pos 8 ∷ []; mixes = record { whole = pos 1; parts = pos 4 ∷ pos 4 ∷ pos 4 ∷ [] } ∷ [] }

-- Three lanes have green together, and only the first has a burst.
abbrev pub three_lanes : Network
three_lanes = record {
  shares = 1;
  per = 1;
  delay = 0;
  links = record { name = codes "a"; burst = 1; rate = 0 } ∷ record { name = codes "b"; burst = 0; rate = 0 } ∷ record { name = codes "c"; burst = 0; rate = 0 } ∷ [];
  movements = record { name = codes "ao"; from = 1; to = None; share = 1; flow = 1; start = 0 } ∷ record { name = codes "bo"; from = 2; to = None; share = 1; flow = 1; start = 0 } ∷ record { name = codes "co"; from = 3; to = None; share = 1; flow = 1; start = 0 } ∷ [];
  junctions = record { name = codes "j"; stages = (1 ∷ 2 ∷ 3 ∷ []) ∷ [] } ∷ [];
}

-- This certificate has their greatest slack, 1.
abbrev pub three_lanes_cert : Cert
three_lanes_cert = record { d = pos 1; e = pos 1; h = pos 1 ∷ pos 1 ∷ pos 1 ∷ []; mixes = record { whole = pos 1; parts = pos 1 ∷ [] } ∷ [] }

-- The started lane is the still lane with two vehicles on it when a run starts.
abbrev pub started_lane : Network
started_lane = record still_lane { movements = record { name = codes "xo"; from = 1; to = None; share = 1; flow = 1; start = 2 } ∷ [] }
