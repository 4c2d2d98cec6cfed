-- Cyclic plans: each junction runs its stages in order for their greens in each cycle, and is then idle.
use Rattle.std.specs.Prelude.{◌≡◌, ◌==◌, ◌≤◌, ℕ, ◌+◌, ◌-◌, ◌*◌, ◌%◌, max, Bool, false, cond, nat_lt, List, [], ◌∷◌, ◌++◌, length, map, filter, sum, sum_by, find, Some, true, unwrap_or, slice_index_or, codes, decimal}
use Rattle.std.specs.List.{AllByRecursion}
use Rattle.mp_model.specs.Arrivals.{arrivals_of}
use Rattle.mp_model.specs.GuardedBursts.{quotient_up}
use Rattle.mp_model.specs.Lights.{Lights, lit_pass}
use Rattle.mp_model.specs.Log.{bound_line, end_line, period_line, spaced, text_of}
use Rattle.mp_model.specs.Network.{Network, Junction, movement_numbers, link_numbers, junction_numbers, junction_at, junction_of_movement, link_at, from_of, to_of, flow_of, share_of, start_of, burst_before, into_link, out_of, stage_at, stage_numbers, has, entry}
use Rattle.mp_model.specs.Run.{opening}
use Rattle.mp_model.specs.Step.{State, queue, step_by}

-- The flow of link l, in vehicles per rate length times d, is its rate, and what the flows of the links before it bring by their shares.
abbrev pub IsCarried : Network → List ℕ → ℕ → ℕ → Type 0
IsCarried net f d l = net.shares * entry f l ≡ net.shares * (link_at net l).rate * d + sum_by (λ k. share_of net k * entry f (from_of net k)) (into_link net l)

-- The flows f over the denominator d carry the network.
pub record CarryNetwork (net : Network) (f : List ℕ) (d : ℕ) : Type 0 where
  pub some : 1 ≤ d
  pub carried : AllByRecursion (IsCarried net f d) (link_numbers net)

-- This is the flow of the link that movement k leaves.
abbrev pub flow_before : Network → List ℕ → ℕ → ℕ
flow_before net f k = entry f (from_of net k)

-- The home of a movement is the lowest stage of its junction that holds it.
abbrev pub home_of : Junction → ℕ → ℕ
home_of j k = unwrap_or (find (λ s. has (stage_at j s) k) (stage_numbers j)) 0

-- Movement k wants as many periods of a cycle as its flow takes to pass what comes in one, rounded up.
abbrev pub wanted : Network → List ℕ → ℕ → ℕ → ℕ → ℕ
wanted net f d cycle k = quotient_up (cycle * share_of net k * flow_before net f k) (net.shares * net.per * d * flow_of net k)

-- This is the greatest number of a list, and 0 of none.
abbrev pub greatest_of : List ℕ → ℕ
greatest_of [] = 0
greatest_of (n ∷ ns) = max n (greatest_of ns)

-- The green of a stage is the most that a movement wants whose home it is, and at least 1 where there is one.
abbrev pub green_of : Network → List ℕ → ℕ → ℕ → Junction → ℕ → ℕ
green_of net f d cycle j s = greatest_of (map (λ k. max 1 (wanted net f d cycle k)) (filter (λ k. home_of j k == s) (stage_at j s)))

-- These are the greens of the stages of a junction.
abbrev pub planned_greens : Network → List ℕ → ℕ → ℕ → Junction → List ℕ
planned_greens net f d cycle j = map (green_of net f d cycle j) (stage_numbers j)

-- A plan has a cycle in periods, for each junction the greens of its stages, in periods per cycle, and a bound per movement.
pub record Plan : Type 0 where
  pub cycle : ℕ
  pub greens : List (List ℕ)
  pub bounds : List ℕ

-- The bound of movement k is its start queue and what may stand there beside it, rounded up: its share of the burst of its link, of the bounds of the movements into it, and of what comes in a cycle, and what the split lets come early for each movement out of its link.
abbrev pub planned_bound : Network → List ℕ → ℕ → ℕ → List ℕ → ℕ → ℕ
planned_bound net f d cycle bounds k =
    start_of net k + quotient_up
    (share_of net k * ((burst_before net k + sum_by (entry bounds) (into_link net (from_of net k))) * d * net.per + flow_before net f k * cycle) + d * net.per * length (out_of net (from_of net k)) * (net.shares - 1))
    (net.shares * net.per * d)

-- The plan is that of flows which carry the network: its greens are what the stages want and fit into the cycle, and each bound follows from those before it.
pub record IsPlan (net : Network) (f : List ℕ) (d : ℕ) (plan : Plan) : Type 0 where
  pub carry : CarryNetwork net f d
  pub cycle : 1 ≤ plan.cycle
  pub greens : plan.greens ≡ map (planned_greens net f d plan.cycle) net.junctions
  pub fit : AllByRecursion (λ greens. sum greens ≤ plan.cycle) plan.greens
  pub bounds : AllByRecursion (λ k. entry plan.bounds k ≡ planned_bound net f d plan.cycle plan.bounds k) (movement_numbers net)

-- These are the greens of the stages of junction j.
abbrev pub greens_in_plan : Plan → ℕ → List ℕ
greens_in_plan plan j = slice_index_or plan.greens (j - 1) []

-- This is the stage, counted from s, that runs in period n of a cycle, from 0: each for its green, and then 0.
abbrev pub running_from : ℕ → List ℕ → ℕ → ℕ
running_from s [] n = 0
running_from s (green ∷ greens) n = cond (nat_lt n green) s (running_from (s + 1) greens (n - green))

-- This is the stage that junction j runs in period t, numbered from 0, and 0 where it is idle.
abbrev pub running : Plan → ℕ → ℕ → ℕ
running plan j t = running_from 1 (greens_in_plan plan j) (t % plan.cycle)

-- A movement stands in a stage; no movement stands in stage 0.
abbrev pub stands_in_stage : Junction → ℕ → ℕ → Bool
stands_in_stage j s k = cond (s == 0) false (has (stage_at j s) k)

-- Movement k is green in period t where it stands in the stage that its junction runs.
abbrev pub is_planned_green : Network → Plan → ℕ → ℕ → Bool
is_planned_green net plan t k = let j = junction_of_movement net k in stands_in_stage (junction_at net j) (running plan j t) k

-- These are the lights of a plan.
abbrev pub plan_lights : Network → Plan → (ℕ → List ℕ) → Lights
plan_lights net plan arrivals = record { arrivals = arrivals; green = is_planned_green net plan }

-- This is the state after a period of the plan.
abbrev pub planned_advance : Network → Plan → List ℕ → State → State
planned_advance net plan counts state = step_by net (lit_pass net (plan_lights net plan (λ t. counts)) state.period (queue state)) (arrivals_of net counts) state

-- These are the states of a run by the plan from one on.
abbrev pub planned_run_from : Network → Plan → State → List (List ℕ) → List State
planned_run_from net plan state [] = state ∷ []
planned_run_from net plan state (counts ∷ A) = state ∷ planned_run_from net plan (planned_advance net plan counts state) A

-- The run by the plan over the arrivals of a list of periods is the list of its states from the opening on.
abbrev pub planned_run : Network → Plan → List (List ℕ) → List State
planned_run net plan A = planned_run_from net plan (opening net) A

-- This is the state after a list of periods, from one on.
abbrev pub planned_after : Network → Plan → State → List (List ℕ) → State
planned_after net plan state [] = state
planned_after net plan state (counts ∷ A) = planned_after net plan (planned_advance net plan counts state) A

-- The line of a period gives the stages that run in it.
abbrev pub planned_line : Network → Plan → State → List ℕ → List ℕ
planned_line net plan state counts =
    let next : State = planned_advance net plan counts state in
    period_line next.period counts (map (λ j. running plan j state.period) (junction_numbers net)) next.queues

-- These are the lines of the periods that follow a state.
abbrev pub planned_lines_from : Network → Plan → State → List (List ℕ) → List (List ℕ)
planned_lines_from net plan state [] = []
planned_lines_from net plan state (counts ∷ A) = planned_line net plan state counts ∷ planned_lines_from net plan (planned_advance net plan counts state) A

-- The lines of a run by the plan are a line per period, and the end line.
abbrev pub planned_lines : Network → Plan → List (List ℕ) → List (List ℕ)
planned_lines net plan A = planned_lines_from net plan (opening net) A ++ end_line net (planned_after net plan (opening net) A) ∷ []

-- The green line of junction j gives the greens of its stages.
abbrev pub green_line : Plan → ℕ → List ℕ
green_line plan j = codes "green " ++ decimal j ++ spaced (greens_in_plan plan j)

-- The header of a plan is `plan 1`, its cycle, the greens of each junction, and the bounds.
abbrev pub plan_header : Network → Plan → List (List ℕ)
plan_header net plan = codes "plan 1" ∷ (codes "cycle " ++ decimal plan.cycle) ∷ map (green_line plan) (junction_numbers net) ++ map (bound_line net plan.bounds) (movement_numbers net)

-- The log of a run by a plan is the text of its header and its lines.
abbrev pub planned_log : Network → Plan → List (List ℕ) → List ℕ
planned_log net plan A = text_of (plan_header net plan ++ planned_lines net plan A)

-- Movements lead from link l to link m where each leaves the link that the one before goes to.
abbrev pub Lead : Network → ℕ → List ℕ → ℕ → Type 0
Lead net l [] m = l ≡ m
Lead net l (k ∷ ks) m = (from_of net k ≡ l) × (n : ℕ) × (to_of net k ≡ Some n) × Lead net n ks m

-- A link is on a cycle where one movement or more leads from it back to it.
pub record IsOnCycle (net : Network) (l : ℕ) : Type 0 where
  pub movements : List ℕ
  pub some : 1 ≤ length movements
  pub known : AllByRecursion (λ k. has (movement_numbers net) k ≡ true) movements
  pub back : Lead net l movements l
