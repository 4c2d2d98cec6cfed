-- What the stages of a junction owe from period to period, which stages are candidates, and the run under a guard.
use Rattle.std.specs.Prelude.{◌≡◌, ◌==◌, ◌≤◌, ℕ, zero, suc, ◌+◌, ◌-◌, ◌*◌, ◌%◌, Bool, false, cond, not, ◌&&◌, ◌||◌, nat_lt, List, length, sum, Option, Some, None, slice_set, find}
use Rattle.std.specs.List.{AllByRecursion, list_all}
use Rattle.mp_model.specs.Guard.{Guard, greens_at, is_always_green, owing}
use Rattle.mp_model.specs.Lights.{Lights, lit_state}
use Rattle.mp_model.specs.Network.{Network, Junction, movement_numbers, junction_numbers, junction_at, junction_of_movement, stage_numbers, stage_at, has, entry}
use Rattle.mp_model.specs.Step.{State, queue}

-- The account of a junction is what each stage owes, and the stage of the period before, if there was one.
pub record Account : Type 0 where
  pub owed : List ℕ
  pub before : Option ℕ

-- At the first period of each cycle each stage owes its greens; periods are numbered from 0 here.
abbrev pub owed_in : ℕ → List ℕ → ℕ → List ℕ → List ℕ
owed_in cycle greens t owed = cond (t % cycle == 0) greens owed

-- Taking stage s is a change where changes lose a period and it is another stage than that of the period before.
abbrev pub is_change : ℕ → Option ℕ → ℕ → Bool
is_change lost None s = false
is_change lost (Some r) s = nat_lt 0 lost && not (r == s)

-- A stage is idle where it owes some and each of its movements is always green or has count 0.
abbrev pub is_idle : Junction → (ℕ → ℕ) → List ℕ → ℕ → Bool
is_idle j counts owed s = nat_lt 0 (entry owed s) && list_all (λ k. is_always_green j k || counts k == 0) (stage_at j s)

-- The stage that is taken pays where it owes some and taking it is no change, and else the lowest idle stage pays, if there is one.
abbrev pub paying : ℕ → Junction → (ℕ → ℕ) → Account → ℕ → Option ℕ
paying lost j counts account s =
    cond (not (is_change lost account.before s) && nat_lt 0 (entry account.owed s)) (Some s) (find (is_idle j counts account.owed) (stage_numbers j))

-- The stage that pays owes one less.
abbrev pub less_by : List ℕ → Option ℕ → List ℕ
less_by owed None = owed
less_by owed (Some s) = slice_set owed (s - 1) (entry owed s - 1)

-- This is what the stages owe once a period with stage s is paid.
abbrev pub paid : ℕ → Junction → (ℕ → ℕ) → Account → ℕ → List ℕ
paid lost j counts account s = less_by account.owed (paying lost j counts account s)

-- In stage s a junction needs the periods that its stages owe in all, and a lost one for each other stage that owes some.
abbrev pub needed_in : ℕ → List ℕ → ℕ → ℕ
needed_in lost owed s = sum owed + lost * owing (slice_set owed (s - 1) 0)

-- A stage is a candidate in period t, of this account, where what the junction needs in it once the period is paid fits into the rest of the cycle.
pub record IsCandidate (guard : Guard) (j : Junction) (counts : ℕ → ℕ) (t : ℕ) (account : Account) (s : ℕ) : Type 0 where
  pub is_stage : (1 ≤ s) × (s ≤ length j.stages)
  pub fits : needed_in guard.lost (paid guard.lost j counts account s) s + 1 + t % guard.cycle ≤ guard.cycle

-- A movement is green where it stands in the stage that is taken, and at a change also in that of the period before.
abbrev pub is_green : ℕ → Junction → Option ℕ → ℕ → ℕ → Bool
is_green lost j None s k = has (stage_at j s) k
is_green lost j (Some r) s k = has (stage_at j s) k && (not (is_change lost (Some r) s) || has (stage_at j r) k)

-- This is the account of a junction at the beginning of period t, by the counts and the stages of each period.
abbrev pub account_at : Guard → List ℕ → Junction → (ℕ → ℕ → ℕ) → (ℕ → ℕ) → ℕ → Account
account_at guard greens j counts stages zero = record { owed = greens; before = None }
account_at guard greens j counts stages (suc t) =
    let account : Account = account_at guard greens j counts stages t in
    record { owed = owed_in guard.cycle greens (suc t) (paid guard.lost j (counts t) account (stages t)); before = Some (stages t) }

-- A guarded play gives for each period, numbered from 0, the arrivals, the count of each movement that the junctions are told, and the stage that each junction takes.
pub record Play : Type 0 where
  pub arrivals : ℕ → List ℕ
  pub counts : ℕ → ℕ → ℕ
  pub stages : ℕ → List ℕ

-- This is the stage that junction j takes in each period.
abbrev pub stage_of : Play → ℕ → ℕ → ℕ
stage_of play j t = entry (play.stages t) j

-- This is the account of junction j at the beginning of period t.
abbrev pub account_of : Network → Guard → Play → ℕ → ℕ → Account
account_of net guard play j t = account_at guard (greens_at guard j) (junction_at net j) play.counts (stage_of play j) t

-- Movement k is green in period t.
abbrev pub green_in : Network → Guard → Play → ℕ → ℕ → Bool
green_in net guard play t k =
    let j = junction_of_movement net k in
    is_green guard.lost (junction_at net j) (account_of net guard play j t).before (stage_of play j t) k

-- These are the lights of a play.
abbrev pub lights_of : Network → Guard → Play → Lights
lights_of net guard play = record { arrivals = play.arrivals; green = green_in net guard play }

-- This is the state at the beginning of period t.
abbrev pub guarded_state : Network → Guard → Play → ℕ → State
guarded_state net guard play t = lit_state net (lights_of net guard play) t

-- In period t each junction takes a candidate, and a movement whose count is 0 has nobody waiting.
pub record KeepsGuard (net : Network) (guard : Guard) (play : Play) (t : ℕ) : Type 0 where
  pub candidates : AllByRecursion (λ j. IsCandidate guard (junction_at net j) (play.counts t) t (account_of net guard play j t) (stage_of play j t)) (junction_numbers net)
  pub zeros : AllByRecursion (λ k. play.counts t k ≡ 0 → queue (guarded_state net guard play t) k ≡ 0) (movement_numbers net)
