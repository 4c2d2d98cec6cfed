-- Which candidate a junction takes, and the run under a guard by its own queues.
use Rattle.std.specs.Prelude.{ℕ, ◌+◌, ◌-◌, ◌*◌, ◌%◌, min, Bool, cond, ◌&&◌, nat_le, nat_lt, List, [], ◌∷◌, filter, map, Option, Some, None, pos, slice_index_or}
use Rattle.mp_model.specs.Arrivals.{arrivals_of}
use Rattle.mp_model.specs.Guard.{Guard, greens_at}
use Rattle.mp_model.specs.GuardedRun.{Account, is_green, needed_in, owed_in, paid}
use Rattle.mp_model.specs.Network.{Network, Junction, junction_numbers, junction_at, junction_of_movement, flow_of, stage_numbers, stage_at, entry}
use Rattle.mp_model.specs.Pressure.{pressure}
use Rattle.mp_model.specs.Run.{opening}
use Rattle.mp_model.specs.Split.{first_greatest}
use Rattle.mp_model.specs.Step.{State, queue, step_by}

-- What the junction needs in stage s, once the period is paid, fits into the rest of the cycle.
abbrev pub is_candidate : Guard → Junction → (ℕ → ℕ) → ℕ → Account → ℕ → Bool
is_candidate guard j counts t account s = nat_le (needed_in guard.lost (paid guard.lost j counts account s) s + 1 + t % guard.cycle) guard.cycle

-- These are the candidates of a junction.
abbrev pub candidates_in : Guard → Junction → (ℕ → ℕ) → ℕ → Account → List ℕ
candidates_in guard j counts t account = filter (is_candidate guard j counts t account) (stage_numbers j)

-- Where changes lose a period, the stage of the period before is kept if it is a candidate and twice its pressure is at least the greatest.
abbrev pub kept_or : Network → Guard → Junction → (ℕ → ℕ) → ℕ → Account → Option ℕ → ℕ → ℕ
kept_or net guard j counts t account None best = best
kept_or net guard j counts t account (Some r) best =
    cond (nat_lt 0 guard.lost && is_candidate guard j counts t account r && nat_le (pressure net counts (stage_at j best)) (2 * pressure net counts (stage_at j r))) r best

-- A junction takes the candidate of greatest pressure, the lowest number on ties, unless it keeps the stage of the period before.
abbrev pub guarded_stage : Network → Guard → Junction → (ℕ → ℕ) → ℕ → Account → ℕ
guarded_stage net guard j counts t account =
    kept_or net guard j counts t account account.before (first_greatest (λ s. pos (pressure net counts (stage_at j s))) (candidates_in guard j counts t account))

-- A guarded state has the accounts of the junctions beside the state.
pub record GuardedState : Type 0 where
  pub state : State
  pub accounts : List Account

-- Where a number names no junction, an account with nothing is read.
abbrev pub no_account : Account
no_account = record { owed = []; before = None }

-- This is the account of junction j.
abbrev pub account_in : GuardedState → ℕ → Account
account_in now j = slice_index_or now.accounts (j - 1) no_account

-- At the opening each stage owes its greens, and no stage was before.
abbrev pub guarded_opening : Network → Guard → GuardedState
guarded_opening net guard = record { state = opening net; accounts = map (λ j. record { owed = greens_at guard j; before = None }) (junction_numbers net) }

-- These are the stages that the junctions take by these counts.
abbrev pub guarded_stages : Network → Guard → (ℕ → ℕ) → GuardedState → List ℕ
guarded_stages net guard counts now = map (λ j. guarded_stage net guard (junction_at net j) counts now.state.period (account_in now j)) (junction_numbers net)

-- This is what movement k passes where the junctions take these stages.
abbrev pub passes_under : Network → Guard → GuardedState → List ℕ → ℕ → ℕ
passes_under net guard now stages k =
    let j = junction_of_movement net k in
    cond (is_green guard.lost (junction_at net j) (account_in now j).before (entry stages j) k) (min (flow_of net k) (queue now.state k)) 0

-- This is the account of junction j after a period with these counts and stages.
abbrev pub next_account : Network → Guard → (ℕ → ℕ) → GuardedState → List ℕ → ℕ → Account
next_account net guard counts now stages j =
    record { owed = owed_in guard.cycle (greens_at guard j) (now.state.period + 1) (paid guard.lost (junction_at net j) counts (account_in now j) (entry stages j)); before = Some (entry stages j) }

-- This is the guarded state after a period with these arrivals in which the junctions take these stages by these counts.
abbrev pub guarded_step : Network → Guard → (ℕ → ℕ) → List ℕ → List ℕ → GuardedState → GuardedState
guarded_step net guard counts stages arrivals now = record {
  state = step_by net (passes_under net guard now stages) (arrivals_of net arrivals) now.state;
  accounts = map (next_account net guard counts now stages) (junction_numbers net);
}

-- This is the guarded state after a period by its own queues.
abbrev pub guarded_advance : Network → Guard → List ℕ → GuardedState → GuardedState
guarded_advance net guard arrivals now = guarded_step net guard (queue now.state) (guarded_stages net guard (queue now.state) now) arrivals now

-- These are the guarded states from one on, one more than the periods.
abbrev pub guarded_run_from : Network → Guard → GuardedState → List (List ℕ) → List GuardedState
guarded_run_from net guard now [] = now ∷ []
guarded_run_from net guard now (arrivals ∷ A) = now ∷ guarded_run_from net guard (guarded_advance net guard arrivals now) A

-- The guarded run over the arrivals of a list of periods is the list of its guarded states from the opening on.
abbrev pub guarded_run : Network → Guard → List (List ℕ) → List GuardedState
guarded_run net guard A = guarded_run_from net guard (guarded_opening net guard) A
