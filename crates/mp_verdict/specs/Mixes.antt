-- The mixes of the junctions at the slack of the game's end, and the certificate that they make.
use Rattle.std.specs.Prelude.{ℕ, List}
use Rattle.mp_num.specs.Fraction.{Fraction}
use Rattle.mp_model.specs.Network.{Network, junction_at, junction_numbers}
use Rattle.mp_model.specs.Certificate.{Mix, Cert}
use Rattle.mp_flow.specs.declared.network.Place.{Place}
use Rattle.mp_flow.specs.Systems.{Flows}
use Rattle.mp_simplex.specs.declared.Optimum.{Optimum}
use Rattle.mp_simplex.specs.Outcome.{maximised}
use Rattle.mp_verdict.specs.Stated.{Stated, Reached, then, at_place, each_reached}
use Rattle.mp_verdict.specs.Rates.{Rates, rates_at}
use Rattle.mp_verdict.specs.Program.{program, optimum_at}
use Rattle.mp_verdict.specs.declared.TheConstants.{TURN_LIMIT}

-- This is the mix of an optimum: its dual, with the denominator as the whole.
abbrev pub mix_of : Optimum → Mix
mix_of o = record { whole = o.dual_den; parts = o.dual }

-- This is the mix of junction j at some rates.
unfoldable pub mixed : Network → Rates → ℕ → Stated Mix
mixed net rates j = then (optimum_at (Place.Mix j) j (maximised (program net (junction_at net j) rates.h) TURN_LIMIT)) (λ o. Reached (mix_of o))

-- These are the mixes of all junctions in order.
unfoldable pub mixes : Network → Rates → Stated (List Mix)
mixes net rates = each_reached (mixed net rates) (junction_numbers net)

-- This is the certificate of some rates and mixes.
abbrev pub certificate_of : Rates → List Mix → Cert
certificate_of rates list = record { d = rates.d; e = rates.e; h = rates.h; mixes = list }

-- This is the certificate at a slack. The rates at the slack of the game's end were found in the game, so that nothing in them exceeds 128 bits here.
unfoldable pub certificate_at : Network → Flows → Fraction → Stated Cert
certificate_at net flows slack =
    then (at_place (Place.Mix 1) (rates_at net flows slack)) (λ rates.
    then (mixes net rates) (λ list. Reached (certificate_of rates list)))
