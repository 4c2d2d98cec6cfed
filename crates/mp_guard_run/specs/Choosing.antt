-- The choice of one junction, where the lowest idle stage and the presses are known.
use Rattle.std.specs.Prelude.{◌≡◌, ◌≤◌, ℕ, zero, suc, ◌+◌, ◌*◌, ◌%◌, ◌^◌, Bool, true, cond, not, ◌&&◌, nat_le, nat_lt, List, [], length, sum, sum_by, Option, Some, None, pos}
use Rattle.std.specs.List.{All}
use Rattle.mp_model.specs.Guard.{Guard, owing}
use Rattle.mp_model.specs.GuardedRun.{Account, is_change, less_by, needed_in}
use Rattle.mp_model.specs.Network.{Network, Junction, stage_at, entry}
use Rattle.mp_model.specs.Split.{first_greatest}
use Rattle.mp_press.specs.Presses.{press_by}
use Rattle.mp_press.specs.Written.{HasEach}
use Rattle.mp_guard_run.specs.declared.choice.Best.{Best}
use Rattle.mp_guard_run.specs.declared.owing.Totals.{Totals}

-- The stage that is taken pays where it owes some and taking it is no change, else this idle one.
abbrev pub paying_or : ℕ → Account → Option ℕ → ℕ → Option ℕ
paying_or lost account idle s = cond (not (is_change lost account.before s) && nat_lt 0 (entry account.owed s)) (Some s) idle

-- What the junction then needs in stage s fits into the rest of the cycle.
abbrev pub fits_or : Guard → ℕ → Account → Option ℕ → ℕ → Bool
fits_or guard t account idle s = nat_le (needed_in guard.lost (less_by account.owed (paying_or guard.lost account idle s)) s + 1 + t % guard.cycle) guard.cycle

-- These are what the stages owe in all, and how many owe some.
pub record AreTotals (totals : Totals) (owed : List ℕ) : Type 0 where
  pub sum_is : totals.sum ≡ sum owed
  pub owing_is : totals.owing ≡ owing owed
  pub few : (totals.sum ≤ 16 * 65535) × (totals.owing ≤ 16)

-- There is a press for each movement: its flow times its positive weight by these counts.
pub record ArePresses (net : Network) (counts : ℕ → ℕ) (presses : List ℕ) : Type 0 where
  pub size : length presses ≡ length net.movements
  pub each : HasEach (press_by net counts counts) (length net.movements) presses
  pub few : All (λ p. p ≤ 2 ^ 110) presses

-- This is the pressure of stage s, from the presses of all movements.
abbrev pub pressed : Junction → List ℕ → ℕ → ℕ
pressed j presses s = sum_by (entry presses) (stage_at j s)

-- This is the best of some stages: the first of greatest pressure, with that pressure; none of none.
abbrev pub IsBest : (ℕ → ℕ) → List ℕ → Option Best → Type 0
IsBest pressure stages None = stages ≡ []
IsBest pressure stages (Some best) = (1 ≤ length stages) × (best.stage ≡ first_greatest (λ s. pos (pressure s)) stages) × (best.pressure ≡ pressure best.stage)

-- This is a stage with its pressure, and none where its number is 0.
abbrev pub best_at : ℕ → ℕ → Option Best
best_at zero pressure = None
best_at (suc s) pressure = Some (record { stage = suc s; pressure = pressure })

-- One more stage is better than the best so far where that is none, or its pressure is below.
abbrev pub is_better : ℕ → ℕ → ℕ → Bool
is_better zero most pressure = true
is_better (suc s) most pressure = nat_lt most pressure

-- Where changes lose a period, the stage of the period before is kept if it may be taken and twice its pressure is at least the greatest.
abbrev pub kept_by : ℕ → (ℕ → Bool) → (ℕ → ℕ) → Option ℕ → ℕ → ℕ
kept_by lost may pressure None best = best
kept_by lost may pressure (Some r) best = cond (nat_lt 0 lost && may r && nat_le (pressure best) (2 * pressure r)) r best
