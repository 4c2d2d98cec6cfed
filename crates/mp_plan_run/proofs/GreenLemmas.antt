-- What runs by a plan, and what is green by it.
use Rattle.std.proofs.Common.{◌≡◌, ◌≤◌, ℕ, ◌+◌, ◌-◌, ◌%◌, Bool, true, false, cond, min, nat_lt, List, [], ◌∷◌, length, map, sum, get_or, arith, refl, sym, ◌∙◌, ap, ap₂}
use Rattle.std.specs.List.{AllByRecursion}
use Rattle.std.proofs.lemmas.List.{length-map}
use Rattle.std.proofs.lemmas.List.FromFn.{get_or-map-range_with_len, length-map-range_with_len}
use Rattle.mp_laws.proofs.Copies.{map_reads}
use Rattle.mp_laws.proofs.Lists.{at_in, at_index, each_in, in_numbers, numbered}
use Rattle.mp_model.specs.Arrivals.{arrivals_of}
use Rattle.mp_model.specs.Network.{Network, entry, flow_of, junction_at, junction_numbers, junction_of_movement, movement_numbers, no_junction}
use Rattle.mp_model.specs.NetworkRules.{IsAcceptable, IsNetwork}
use Rattle.mp_model.specs.Plans.{Plan, green_of, greens_in_plan, is_planned_green, planned_greens, running, running_from, stands_in_stage}
use Rattle.mp_model.specs.Step.{State, queue}
use Rattle.mp_plan.specs.Made.{IsPlanOn}
use Rattle.mp_served.proofs.Places.{junction_in, range_has}
use Rattle.mp_step.proofs.SamePasses.{step_same}
use Rattle.mp_step.specs.OpenStep.{flag, passed_open}
use Rattle.mp_plan_run.specs.Green.{AreRunning, PlanFlagsLaw, is_green_in, plan_flags, running_stages}

-- what runs is a stage with a green, or none
runs_among : (s : ℕ) (greens : List ℕ) (n : ℕ) → 1 ≤ s → running_from s greens n + 1 ≤ s + length greens
runs_among s [] n some = omega arith
runs_among s (green ∷ greens) n some = go (nat_lt n green) (runs_among (s + 1) greens (n - green) (omega arith))
  where
    go : (b : Bool) → running_from (s + 1) greens (n - green) + 1 ≤ s + 1 + length greens → cond b s (running_from (s + 1) greens (n - green)) + 1 ≤ s + length (green ∷ greens)
    go true more = omega arith
    go false more = omega arith

module _ (net : Network) (plan : Plan) (made : IsPlanOn net plan) where
  -- a plan has greens for each junction
  pub junction_count : length plan.greens ≡ length net.junctions
  junction_count = ap (λ (gs : List (List ℕ)). length gs) made.is.greens ∙ length-map net.junctions (planned_greens net made.flows made.denominator plan.cycle)

  -- and for each of its stages
  pub greens_count : (j : ℕ) → length (greens_in_plan plan j) ≡ length (junction_at net j).stages
  greens_count j =
      let read : greens_in_plan plan j ≡ planned_greens net made.flows made.denominator plan.cycle (junction_at net j) =
      ap (λ gs. get_or gs (j - 1) []) made.is.greens ∙ map_reads (planned_greens net made.flows made.denominator plan.cycle) no_junction net.junctions (j - 1) in
      ap (λ (gs : List ℕ). length gs) read ∙ length-map-range_with_len (green_of net made.flows made.denominator plan.cycle (junction_at net j)) 1 (length (junction_at net j).stages)

  pub greens_few : IsAcceptable net → (j : ℕ) → length (greens_in_plan plan j) ≤ 16
  greens_few ok j = omega (arith, greens_count j, at_index (λ j. length j.stages ≤ 16) no_junction net.junctions (j - 1) ok.range.stages (omega arith))

  pub greens_fit : (j : ℕ) → sum (greens_in_plan plan j) ≤ plan.cycle
  greens_fit j = at_index (λ greens. sum greens ≤ plan.cycle) [] plan.greens (j - 1) made.is.fit (omega arith)

  -- what runs is a stage of the junction, or none
  pub running_known : (j t : ℕ) → running plan j t ≤ length (junction_at net j).stages
  running_known j t = omega (arith, runs_among 1 (greens_in_plan plan j) (t % plan.cycle) (omega arith), greens_count j)

  pub are_running : (t : ℕ) → AreRunning net (running_stages net plan t)
  are_running t = record {
    count = length-map-range_with_len (λ j. running plan j t) 1 (length net.junctions);
    known = each_in (λ j. entry (running_stages net plan t) j ≤ length (junction_at net j).stages) (junction_numbers net) (λ j h. omega (arith, numbered (λ j. running plan j t) (length net.junctions) j h, running_known j t));
  }

-- a stage that runs is one of its junction
pub stage_there : (net : Network) (stages : List ℕ) → AreRunning net stages → (j : ℕ) → 1 ≤ j → j ≤ length net.junctions → entry stages j ≤ length (junction_at net j).stages
stage_there net stages are j low high = at_in (λ j. entry stages j ≤ length (junction_at net j).stages) j (junction_numbers net) (range_has 1 (length net.junctions) j low (omega arith)) are.known

map_same : (f g : ℕ → Bool) (xs : List ℕ) → AllByRecursion (λ x. f x ≡ g x) xs → map f xs ≡ map g xs
map_same f g [] h = refl
map_same f g (x ∷ xs) h = ap₂ ◌∷◌ h.0 (map_same f g xs h.1)

-- the flags by the stages that run are those of the plan
pub flags_same : (net : Network) → IsNetwork net → (plan : Plan) (t : ℕ) → map (is_green_in net (running_stages net plan t)) (movement_numbers net) ≡ plan_flags net plan t
flags_same net ok plan t =
    map_same (is_green_in net (running_stages net plan t)) (is_planned_green net plan t) (movement_numbers net)
    (each_in (λ k. is_green_in net (running_stages net plan t) k ≡ is_planned_green net plan t k) (movement_numbers net) (λ k h.
    let j = junction_of_movement net k in
    ap (λ s. stands_in_stage (junction_at net j) s k) (numbered (λ j. running plan j t) (length net.junctions) j (junction_in net ok k h))))

-- and so are those by a list that shows these stages
pub flags_shown : (net : Network) → IsNetwork net → (plan : Plan) (t period : ℕ) (ran shown : List ℕ) (flags : List Bool) → period ≡ t + 1 → ran ≡ running_stages net plan (period - 1) → shown ≡ ran → flags ≡ map (is_green_in net shown) (movement_numbers net) →
    flags ≡ plan_flags net plan t
flags_shown net ok plan t period ran shown flags next runs same are =
    let now : period - 1 ≡ t = omega arith in
    are ∙ ap (λ (stages : List ℕ). map (is_green_in net stages) (movement_numbers net)) (same ∙ runs ∙ ap (running_stages net plan) now) ∙ flags_same net ok plan t

as_flags : (net : Network) (plan : Plan) (state : State) → AllByRecursion (λ k. cond (is_planned_green net plan state.period k) (min (flow_of net k) (queue state k)) 0 ≡ passed_open net (plan_flags net plan state.period) (queue state) k) (movement_numbers net)
as_flags net plan state = each_in _ (movement_numbers net) (λ k h.
    let i = in_numbers (length net.movements) k h in
    let read : flag (plan_flags net plan state.period) k ≡ is_planned_green net plan state.period k =
    get_or-map-range_with_len (is_planned_green net plan state.period) 1 (length net.movements) (k - 1) k false (omega (arith, i)) (omega (arith, i)) in
    ap (λ b. cond b (min (flow_of net k) (queue state k)) 0) (sym read))

-- a period of a plan is one with these flags
pub flags_agree : PlanFlagsLaw
flags_agree net plan counts state = step_same net _ _ (as_flags net plan state) (arrivals_of net counts) state
