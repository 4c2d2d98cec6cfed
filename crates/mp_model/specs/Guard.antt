-- Guards: what each stage is owed in a cycle, the rules of a guard, and the bursts and bounds that follow from it.
use Rattle.std.specs.Prelude.{◌≡◌, ◌≤◌, ℕ, ◌+◌, ◌-◌, ◌*◌, Bool, cond, nat_lt, List, [], ◌∷◌, length, sum, sum_by, slice_index_or}
use Rattle.std.specs.List.{AllByRecursion, list_all}
use Rattle.mp_model.specs.Network.{Network, Junction, movement_numbers, junction_numbers, junction_at, junction_of_movement, flow_of, has, entry}
use Rattle.mp_model.specs.Lights.{Demand, CarriesRate, CarryRates, HasSurplus, HoldsRate, crowd_by}

-- A guard has a cycle in periods, the lost periods of a change of stage, a denominator, a rate per movement, in vehicles per period times the denominator, and for each junction the greens of its stages, in periods per cycle.
pub record Guard : Type 0 where
  pub cycle : ℕ
  pub lost : ℕ
  pub denominator : ℕ
  pub rates : List ℕ
  pub greens : List (List ℕ)

-- This is the rate of movement k.
abbrev pub guarded_rate : Guard → ℕ → ℕ
guarded_rate guard k = entry guard.rates k

-- These are the greens of the stages of junction j.
abbrev pub greens_at : Guard → ℕ → List ℕ
greens_at guard j = slice_index_or guard.greens (j - 1) []

-- Movement k is always green where it stands in every stage of its junction.
abbrev pub is_always_green : Junction → ℕ → Bool
is_always_green j k = list_all (λ stage. has stage k) j.stages

-- This is the sum of the numbers of the stages that hold movement k.
abbrev pub sum_with : List (List ℕ) → List ℕ → ℕ → ℕ
sum_with [] numbers k = 0
sum_with (stage ∷ stages) [] k = 0
sum_with (stage ∷ stages) (n ∷ numbers) k = cond (has stage k) n 0 + sum_with stages numbers k

-- A movement that is always green is given the whole cycle, and any other the greens of the stages that hold it.
abbrev pub given_of : ℕ → Junction → List ℕ → ℕ → ℕ
given_of cycle j greens k = cond (is_always_green j k) cycle (sum_with j.stages greens k)

-- This is how many periods of each cycle movement k is given.
abbrev pub given : Network → Guard → ℕ → ℕ
given net guard k = let j = junction_of_movement net k in given_of guard.cycle (junction_at net j) (greens_at guard j) k

-- This is how many periods of a cycle movement k may be without green.
abbrev pub red : Network → Guard → ℕ → ℕ
red net guard k = guard.cycle - given net guard k

-- The demand of a guard has its rates, each of which may go unserved in twice the red periods of its movement.
abbrev pub demand_of : Network → Guard → Demand
demand_of net guard = record { denominator = guard.denominator; rate = guarded_rate guard; unserved = λ k. 2 * red net guard k }

-- This is how many stages owe something.
abbrev pub owing : List ℕ → ℕ
owing owed = sum_by (λ n. cond (nat_lt 0 n) 1 0) owed

-- The cycle has 1 to 3,600 periods.
abbrev pub CycleRule : Guard → Type 0
CycleRule guard = (1 ≤ guard.cycle) × (guard.cycle ≤ 3600)

-- A change of stage loses a period or none.
abbrev pub LostRule : Guard → Type 0
LostRule guard = guard.lost ≤ 1

-- The denominator is 1 to 999,999,999.
abbrev pub GuardDenominatorRule : Guard → Type 0
GuardDenominatorRule guard = (1 ≤ guard.denominator) × (guard.denominator ≤ 999999999)

-- The rate of movement k is at most its flow.
abbrev pub FlowRule : Network → Guard → ℕ → Type 0
FlowRule net guard k = guarded_rate guard k ≤ flow_of net k * guard.denominator

-- Stage s of junction j has at most the cycle as its green.
abbrev pub GreenRule : Guard → ℕ → ℕ → Type 0
GreenRule guard j s = entry (greens_at guard j) s ≤ guard.cycle

-- The greens of junction j, and a lost period for each stage with a green, fit into the cycle.
abbrev pub GreensFit : Guard → List ℕ → Type 0
GreensFit guard greens = sum greens + guard.lost * owing greens ≤ guard.cycle

-- The rate of movement k carries its share of what its link receives.
abbrev pub GuardedBalanceRule : Network → Guard → ℕ → Type 0
GuardedBalanceRule net guard k = CarriesRate net (demand_of net guard) k

-- Movement k is given a period at least, and its flow in the periods that it is given serves its rate over the cycle.
pub record GuardedServeRule (net : Network) (guard : Guard) (k : ℕ) : Type 0 where
  pub some : 1 ≤ given net guard k
  pub serves : guard.cycle * guarded_rate guard k ≤ guard.denominator * flow_of net k * given net guard k

-- A guard has a rate per movement, and a green per stage of each junction.
pub record HasGuardLengths (net : Network) (guard : Guard) : Type 0 where
  pub rates : length guard.rates ≡ length net.movements
  pub junctions : length guard.greens ≡ length net.junctions
  pub greens : AllByRecursion (λ j. length (greens_at guard j) ≡ length (junction_at net j).stages) (junction_numbers net)

-- A guard guards a network where it meets all rules.
pub record Guards (net : Network) (guard : Guard) : Type 0 where
  pub lengths : HasGuardLengths net guard
  pub cycle : CycleRule guard
  pub lost : LostRule guard
  pub denominator : GuardDenominatorRule guard
  pub flows : AllByRecursion (FlowRule net guard) (movement_numbers net)
  pub greens : AllByRecursion (λ j. AllByRecursion (λ n. n ≤ guard.cycle) (greens_at guard j)) (junction_numbers net)
  pub masses : AllByRecursion (λ j. GreensFit guard (greens_at guard j)) (junction_numbers net)
  pub balances : AllByRecursion (GuardedBalanceRule net guard) (movement_numbers net)
  pub serves : AllByRecursion (GuardedServeRule net guard) (movement_numbers net)

-- The surplus of movement k is the least such number.
pub record IsSurplus (net : Network) (k surplus : ℕ) : Type 0 where
  pub holds : HasSurplus net k surplus
  pub least : (n : ℕ) → HasSurplus net k n → surplus ≤ n

-- The vehicles that may come to movement k at once, beside its rate, times the share total and the denominator.
abbrev pub crowd : Network → Guard → ℕ → List ℕ → ℕ → ℕ
crowd net guard surplus bursts k = crowd_by net guard.denominator surplus bursts k

-- A number of vehicles holds the start queue of movement k, those that may come at once, and those that come at its rate in so many periods.
abbrev pub Holds : Network → Guard → ℕ → List ℕ → ℕ → ℕ → ℕ → Type 0
Holds net guard surplus bursts k periods n = HoldsRate net (demand_of net guard) surplus bursts k periods n

-- These bursts carry those before them: each holds what comes while its movement may be without green at the end of a cycle and the beginning of the next.
abbrev pub CarryBursts : Network → Guard → (ℕ → ℕ) → List ℕ → Type 0
CarryBursts net guard surplus b = CarryRates net (demand_of net guard) surplus b

-- The guarded bound of movement k under some bursts is the least number that holds what comes in one period more.
pub record IsGuardedBound (net : Network) (guard : Guard) (surplus : ℕ → ℕ) (bursts : List ℕ) (k bound : ℕ) : Type 0 where
  pub holds : Holds net guard (surplus k) bursts k (1 + 2 * red net guard k) bound
  pub least : (n : ℕ) → Holds net guard (surplus k) bursts k (1 + 2 * red net guard k) n → bound ≤ n
