-- The rules of a guard in their order, and what a check of them answers.
use Rattle.std.specs.Prelude.{◌≡◌, ◌≤◌, ℕ, List, ◌∷◌, ◌++◌, map, flat_map, Result, Ok, Err}
use Rattle.std.specs.List.{AllByRecursion}
use Rattle.mp_model.specs.Guard.{Guard, CycleRule, LostRule, GuardDenominatorRule, FlowRule, GreenRule, GreensFit, GuardedBalanceRule, GuardedServeRule, greens_at}
use Rattle.mp_model.specs.Network.{Network, junction_at, movement_numbers, junction_numbers, stage_numbers}
use Rattle.mp_guard.specs.declared.fault.GuardFault.{GuardFault}
use Rattle.mp_guard.specs.declared.fault.GuardFault.TheVariants.{Cycle, Lost, D, H, Green, Mass, Balance, Serve}

-- The rules on greens of a junction are one per stage.
abbrev pub green_rules : Network → ℕ → List GuardFault
green_rules net j = map (Green j) (stage_numbers (junction_at net j))

-- The rules of a guard are those on its cycle, its lost periods, its denominator and its rates, then those on the green of each stage, on the greens of each junction, and on the balance and the service of each movement.
abbrev pub rules_of : Network → List GuardFault
rules_of net =
    Cycle ∷ Lost ∷ D ∷ map H (movement_numbers net) ++ flat_map (green_rules net) (junction_numbers net) ++ map Mass (junction_numbers net) ++ map Balance (movement_numbers net) ++ map Serve (movement_numbers net)

-- The cycle, the lost periods and the denominator of a guard are in range.
pub record HasNumbers (guard : Guard) : Type 0 where
  pub cycle : CycleRule guard
  pub lost : LostRule guard
  pub denominator : GuardDenominatorRule guard

-- The rate of each movement is at most its flow.
abbrev pub HasRates : Network → Guard → Type 0
HasRates net guard = AllByRecursion (FlowRule net guard) (movement_numbers net)

-- No green is longer than the cycle.
abbrev pub HasGreens : Network → Guard → Type 0
HasGreens net guard = AllByRecursion (λ j. AllByRecursion (λ n. n ≤ guard.cycle) (greens_at guard j)) (junction_numbers net)

-- A guard keeps the rule that a fault names.
abbrev pub Keeps : Network → Guard → GuardFault → Type 0
Keeps net guard Cycle = CycleRule guard
Keeps net guard Lost = LostRule guard
Keeps net guard D = GuardDenominatorRule guard
Keeps net guard (H k) = FlowRule net guard k
Keeps net guard (Green j s) = GreenRule guard j s
Keeps net guard (Mass j) = GreensFit guard (greens_at guard j)
Keeps net guard (Balance k) = GuardedBalanceRule net guard k
Keeps net guard (Serve k) = GuardedServeRule net guard k

-- This is the first of some rules that the guard does not keep.
pub record IsFirstBroken (net : Network) (guard : Guard) (rules : List GuardFault) (fault : GuardFault) : Type 0 where
  pub earlier : List GuardFault
  pub later : List GuardFault
  pub order : rules ≡ earlier ++ fault ∷ later
  pub kept : AllByRecursion (Keeps net guard) earlier
  pub broken : ¬ Keeps net guard fault

-- Some rules are tried in their order: all are kept, or the first that is not is named.
abbrev pub Tries : Network → Guard → List GuardFault → Result (Unit {0}) GuardFault → Type 0
Tries net guard rules (Ok done) = AllByRecursion (Keeps net guard) rules
Tries net guard rules (Err fault) = IsFirstBroken net guard rules fault
