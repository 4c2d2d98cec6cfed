-- One period in which these numbers pass, and one in which a list of flags says which movements pass.
use Rattle.std.specs.Prelude.{◌≡◌, ◌≤◌, ◌&&◌, ◌-◌, ◌%◌, ℕ, Bool, false, cond, min, nat_lt, List, map, slice_index_or}
use Rattle.std.specs.List.{AllByRecursion}
use Rattle.mp_model.specs.Network.{Network, movement_numbers, link_numbers, flow_of, entry}
use Rattle.mp_model.specs.Pressure.{positive_weight}
use Rattle.mp_model.specs.Arrivals.{arrivals_of}
use Rattle.mp_model.specs.Step.{State, queue, has_green, step_by, step}
use Rattle.mp_step.specs.BucketLevels.{level_then}
use Rattle.mp_step.specs.Standing.{Standing, as_state, closed}

-- The standing after a period in which these numbers pass is the step from its phases, with the phases modulo the share total again, and with the levels after the arrivals.
abbrev pub closed_by : Network → Standing → (ℕ → ℕ) → List ℕ → Standing
closed_by net st pass counts =
    let after : State = step_by net pass (arrivals_of net counts) (as_state st) in
    record {
      queues = after.queues;
      phases = map (λ n. n % net.shares) after.received;
      levels = map (level_then net (entry st.levels) counts) (link_numbers net);
      period = after.period;
      total_in = after.total_in;
      total_out = after.total_out;
      splits = st.splits;
      buckets = st.buckets;
    }

-- No movement passes more than its queue.
abbrev pub ArePasses : Network → (ℕ → ℕ) → (ℕ → ℕ) → Type 0
ArePasses net q pass = AllByRecursion (λ k. pass k ≤ q k) (movement_numbers net)

-- This is the flag of movement k, from a list of one flag per movement.
abbrev pub flag : List Bool → ℕ → Bool
flag passing k = slice_index_or passing (k - 1) false

-- A movement whose flag is set passes the lesser of its flow and its queue, whatever its weight, and every other movement passes 0.
abbrev pub passed_open : Network → List Bool → (ℕ → ℕ) → ℕ → ℕ
passed_open net passing q k = cond (flag passing k) (min (flow_of net k) (q k)) 0

-- This is the state after a period with these flags.
abbrev pub open_step : Network → List Bool → (ℕ → ℕ) → State → State
open_step net passing arrivals state = step_by net (passed_open net passing (queue state)) arrivals state

-- This is the standing after a period with these flags.
abbrev pub closed_open : Network → Standing → List Bool → List ℕ → Standing
closed_open net st passing counts = closed_by net st (passed_open net passing (entry st.queues)) counts

-- These are the flags of the movements that have green in these stages, and a positive weight.
abbrev pub flags_of : Network → List ℕ → (ℕ → ℕ) → List Bool
flags_of net stages q = map (λ k. has_green net stages k && nat_lt 0 (positive_weight net q k)) (movement_numbers net)

-- The step with stages is the one with the flags of the movements that have green and a positive weight.
abbrev pub OpenStepLaw : Type 0
OpenStepLaw = (net : Network) (stages : List ℕ) (arrivals : ℕ → ℕ) (state : State) → step net stages arrivals state ≡ open_step net (flags_of net stages (queue state)) arrivals state

-- So is the standing after it.
abbrev pub ClosedOpenLaw : Type 0
ClosedOpenLaw = (net : Network) (st : Standing) (stages counts : List ℕ) → closed net st stages counts ≡ closed_open net st (flags_of net stages (entry st.queues)) counts
