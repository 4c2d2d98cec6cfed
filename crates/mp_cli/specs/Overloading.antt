-- What `overload` promises.
use Rattle.std.specs.Prelude.{◌≡◌, ◌+◌, ◌++◌, ◌≤ℤ◌, ℕ, ℤ, pos, List, length, codes, Option, None, Some, option_map, option_and_then}
use Rattle.std.specs.Fmt.{signed_decimal}
use Rattle.mp_model.specs.Certificate.{Carries}
use Rattle.mp_model.specs.Load.{ShowsOverload}
use Rattle.mp_model.specs.Network.{Network}
use Rattle.mp_model.specs.Run.{advance}
use Rattle.mp_model.specs.Step.{State, queue}
use Rattle.mp_cert.specs.Texts.{vector_text}
use Rattle.mp_cert.specs.Weighing.{weighed}
use Rattle.mp_flow.specs.declared.network.Place.TheVariants as at
use Rattle.mp_growth.specs.Formed.{rate_formed, least_at}
use Rattle.mp_overload.specs.Evens.{even_arrivals, uneven_link}
use Rattle.mp_overload.specs.Forming.{natural_entry, queues_formed, least_formed}
use Rattle.mp_overload.specs.Growing.{growth, lost_to_rounding, weighed_queues, HasGrown}
use Rattle.mp_overload.specs.Trails.{trail, even_run}
use Rattle.mp_press.specs.Queues.{naturals}
use Rattle.mp_step.specs.Standing.{Standing, Stands}
use Rattle.mp_cli.specs.declared.overloading.Told.{Told}
use Rattle.mp_cli.specs.declared.overloading.TheConstants.{PERIODS}
use Rattle.mp_cli.specs.declared.outcome.Outcome.{Outcome}
use Rattle.mp_cli.specs.declared.outcome.Outcome.TheVariants.{Admitted, Critical, Overflow, Uneven, GrowthOverflow, NoMemory}
use Rattle.mp_cli.specs.Opening.{OnNetwork}
use Rattle.mp_cli.specs.Ports.{Ports, Answers, RefusedOr}
use Rattle.mp_cli.specs.Refuting.{IsFormed}
use Rattle.mp_cli.specs.Verdicts.{IsShownCritical, IsShownOverloaded, IsUnfinished, OfAdmitted}

-- This is the last state of the run that is told of: over that many periods of even arrivals, with the stages of greatest pressure.
unfoldable pub told_run : Network → State
told_run net = even_run net PERIODS

-- These are the queues after it, by movement.
abbrev pub told_queues : Network → ℕ → ℕ
told_queues net = queue (told_run net)

-- The first line tells the growth a period of a vector, and what is lost to rounding in all.
abbrev pub growth_line : ℤ → ℤ → List ℕ
growth_line per lost = (((codes "growth " ++ signed_decimal per) ++ codes " constant ") ++ signed_decimal lost) ++ codes "\n"

-- The second line tells what the vector weighs of the queues after the periods, and the least that this has come to.
abbrev pub periods_line : ℤ → ℤ → List ℕ
periods_line sum least = (((codes "periods 1000 sum " ++ signed_decimal sum) ++ codes " least ") ++ signed_decimal least) ++ codes "\n"

-- The vector itself comes last.
abbrev pub told_text : ℤ → ℤ → ℤ → ℤ → List ℤ → List ℕ
told_text per lost sum least vector = (growth_line per lost ++ periods_line sum least) ++ vector_text vector

-- This is the text of a vector against a network, by the definitions alone.
abbrev pub growth_text : Network → List ℤ → List ℕ
growth_text net vector =
    let per : ℤ = growth net (natural_entry vector) in
    let lost : ℤ = pos (lost_to_rounding net (natural_entry vector)) in
    told_text per lost (pos (weighed_queues net (natural_entry vector) (told_queues net))) (least_at PERIODS per lost) vector

-- What is printed is formed in order: the two sums of the vector, its growth and what is lost, what it weighs of the queues, and the least that this has come to.
unfoldable pub told_formed : Network → ℕ → List ℤ → (ℕ → ℕ) → Option Told
told_formed net periods vector q =
    option_and_then (λ sums.
    option_and_then (λ rate.
    option_and_then (λ sum.
    option_map (λ least. record { rate = rate; sum = sum; least = least }) (least_formed periods rate.per rate.lost)) (queues_formed net vector q)) (rate_formed net vector sums)) (weighed net vector)

-- No calculation of what is printed exceeds 128 bits.
abbrev pub IsTold : Network → List ℤ → Type 0
IsTold net vector = (told : Told) × (told_formed net PERIODS vector (told_queues net) ≡ Some told)

-- A period leads from one standing to another with even arrivals and the stages of greatest pressure.
abbrev pub StepsGreatest : Network → Standing → Standing → Type 0
StepsGreatest net before after = (state : State) → Stands net before state → Stands net after (advance net (even_arrivals net (state.period + 1)) state)

-- What is told is the growth of the vector, what is lost, what the vector weighs of the queues after the run, and the least of that; and the queues have grown by it.
pub record IsSo (net : Network) (vector : List ℤ) (told : Told) : Type 0 where
  pub per : told.rate.per ≡ growth net (natural_entry vector)
  pub lost : told.rate.lost ≡ pos (lost_to_rounding net (natural_entry vector))
  pub sum : told.sum ≡ pos (weighed_queues net (natural_entry vector) (told_queues net))
  pub least : told.least ≡ least_at PERIODS told.rate.per told.rate.lost
  pub grown : HasGrown net (natural_entry vector) PERIODS (told_queues net)

-- The network is overloaded, as the vector shows; under even arrivals and any choices of stages its weighed queues grow by at least the growth a period, less what is lost; after the run they are at least the least that is told; and all this was put.
pub record WritesGrowth (outcome : Outcome) (net : Network) (ports : Ports) (vector : List ℤ) : Type 0 where
  pub shows : ShowsOverload net (naturals vector)
  pub none : ¬ Carries net
  pub grows : (choices : List (List ℕ)) → HasGrown net (natural_entry vector) (length choices) (queue (trail net choices))
  pub least : least_at PERIODS (growth net (natural_entry vector)) (pos (lost_to_rounding net (natural_entry vector))) ≤ℤ pos (weighed_queues net (natural_entry vector) (told_queues net))
  pub answers : Answers outcome ports (growth_text net vector)

-- The stated calculation does not find the network overloaded: it admits it, finds it critical, or has no verdict.
abbrev pub IsNotOverloaded : Outcome → Network → Type 0
IsNotOverloaded Admitted net = OfAdmitted net (λ cert. Unit {0})
IsNotOverloaded (Critical against) net = IsShownCritical net against.p
IsNotOverloaded outcome net = IsUnfinished outcome net

-- The stated calculation finds the network overloaded, as a vector shows, and the fact is true of the vector.
pub record OfOverloaded (net : Network) (P : List ℤ → Type 0) : Type 0 where
  pub vector : List ℤ
  pub shown : IsShownOverloaded net vector
  pub is : P vector

-- The growth is not told: a fed link is uneven, and this is the least; or a calculation exceeds 128 bits, first those of the sums of the vector; or memory ran out.
abbrev pub IsUntold : Outcome → Network → List ℤ → Type 0
IsUntold (Uneven link) net vector = uneven_link net ≡ Some link
IsUntold (Overflow at.Vector) net vector = (uneven_link net ≡ None) × (weighed net vector ≡ None)
IsUntold GrowthOverflow net vector = (uneven_link net ≡ None) × IsFormed net vector × (told_formed net PERIODS vector (told_queues net) ≡ None)
IsUntold NoMemory net vector = Unit {0}
IsUntold outcome net vector = ⊥

-- This is what each outcome says of `overload`: on the network of the file, as it is overloaded and no fed link is uneven, the growth of the vector that shows it was put.
abbrev pub Overloads : Outcome → List ℕ → Ports → Type 0
Overloads outcome name ports =
    OnNetwork outcome name ports (λ net.
    RefusedOr (IsNotOverloaded outcome net) ports (OfOverloaded net (λ vector.
    RefusedOr (IsUntold outcome net vector) ports ((uneven_link net ≡ None) × IsTold net vector × WritesGrowth outcome net ports vector))))
