-- What `refute` promises.
use Rattle.std.specs.Prelude.{◌≡◌, ◌<◌, ◌⊎◌, ◌*◌, ◌++◌, ℕ, ℤ, List, codes, decimal, Some, None, pos}
use Rattle.std.specs.List.{All}
use Rattle.mp_model.specs.Certificate.{Cert, Certifies, Carries}
use Rattle.mp_model.specs.Load.{IsVector, ShowsOverload, IsTight, load, capacity}
use Rattle.mp_model.specs.Network.{Network, entry}
use Rattle.mp_cert.specs.Weighing.{weighed}
use Rattle.mp_cert.specs.declared.types.Weighed.{Weighed}
use Rattle.mp_flow.specs.declared.network.Place.TheVariants as at
use Rattle.mp_cli.specs.declared.outcome.Outcome.{Outcome}
use Rattle.mp_cli.specs.declared.outcome.Outcome.TheVariants.{ZeroVector, WeakVector, Overflow}
use Rattle.mp_cli.specs.Opening.{OnNetwork, OnVector}
use Rattle.mp_cli.specs.Ports.{Ports, Answers, RefusedOr}
use Rattle.mp_press.specs.Queues.{naturals}

-- This is the line of a word and two sums: the load, and the rate length times the capacity.
abbrev pub sums_line : List ℕ → ℕ → ℕ → List ℕ
sums_line word brought served = ((((word ++ codes " load ") ++ decimal brought) ++ codes " cap ") ++ decimal served) ++ codes "\n"

-- This is the line of a word and the two sums of a vector.
abbrev pub vector_line : List ℕ → Network → List ℕ → List ℕ
vector_line word net p = sums_line word (load net (entry p)) (net.per * capacity net (entry p))

-- A vector shows an overload, so that the network does not carry its rates, and its line was put.
pub record IsOverloading (outcome : Outcome) (net : Network) (ports : Ports) (p : List ℕ) : Type 0 where
  pub shows : ShowsOverload net p
  pub none : ¬ Carries net
  pub answers : Answers outcome ports (vector_line (codes "overloaded") net p)

-- A vector is tight, so that no certificate holds, and its line was put.
pub record IsTightening (outcome : Outcome) (net : Network) (ports : Ports) (p : List ℕ) : Type 0 where
  pub tight : IsTight net p
  pub none : (cert : Cert) → ¬ Certifies net cert
  pub answers : Answers outcome ports (vector_line (codes "tight") net p)

-- A vector speaks against the network: it shows an overload, or is tight.
abbrev pub SpeaksAgainst : Outcome → Network → Ports → List ℕ → Type 0
SpeaksAgainst outcome net ports p = IsOverloading outcome net ports p ⊎ IsTightening outcome net ports p

-- No calculation of the two sums of a vector exceeds 128 bits.
abbrev pub IsFormed : Network → List ℤ → Type 0
IsFormed net p = (sums : Weighed) × (weighed net p ≡ Some sums)

-- All numbers of a vector are 0.
abbrev pub IsZero : List ℤ → Type 0
IsZero p = All (λ n. n ≡ pos 0) p

-- The load of a vector is below the rate length times the capacity.
pub record IsWeak (net : Network) (p : List ℤ) : Type 0 where
  pub vector : IsVector net (naturals p)
  pub below : load net (entry (naturals p)) < net.per * capacity net (entry (naturals p))

-- A vector shows nothing: all its numbers are 0, or its load is below the capacity, or a calculation of its sums exceeds 128 bits.
abbrev pub ShowsNothing : Outcome → Network → List ℤ → Type 0
ShowsNothing ZeroVector net p = IsZero p
ShowsNothing WeakVector net p = IsFormed net p × IsWeak net p
ShowsNothing (Overflow at.Vector) net p = (¬ IsZero p) × (weighed net p ≡ None)
ShowsNothing outcome net p = ⊥

-- This is what each outcome says of `refute`: on the network of the file, and on the vector of the other file, no calculation exceeds 128 bits, and its line was put.
abbrev pub Refutes : Outcome → List ℕ → List ℕ → Ports → Type 0
Refutes outcome name other ports =
    OnNetwork outcome name ports (λ net.
    OnVector outcome net other ports (λ p.
    RefusedOr (ShowsNothing outcome net p) ports (IsFormed net p × SpeaksAgainst outcome net ports (naturals p))))
