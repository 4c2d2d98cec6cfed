-- A run by a plan, one period further.
use Rattle.std.proofs.Common.{◌≡◌, ◌≤◌, ℕ, ◌+◌, List, [], ◌∷◌, ◌++◌, length, refl, sym, ◌∙◌, ap, subst, arith}
use Rattle.std.specs.List.{AllByRecursion}
use Rattle.mp_model.specs.Arrivals.{arrivals_of}
use Rattle.mp_model.specs.Network.{Network, entry, movement_numbers}
use Rattle.mp_model.specs.Plans.{Plan, planned_advance, planned_after, planned_line, planned_lines_from, planned_run_from}
use Rattle.mp_model.specs.Run.{opening}
use Rattle.mp_model.specs.Step.{State}
use Rattle.mp_planned.proofs.Plans.{planned_bounded}
use Rattle.mp_planned.specs.Plans.{IsWithinPlan}
use Rattle.mp_step.specs.OpenStep.{open_step}
use Rattle.mp_step.specs.Standing.{IsOn, Standing, Stands}
use Rattle.mp_step.specs.Taken.{HasTaken}
use Rattle.mp_plan_run.specs.Green.{plan_flags}
use Rattle.mp_plan_run.specs.Planned.{IsBehind, IsPlanned, IsWithin, Planned}
use Rattle.mp_plan_run.proofs.GreenLemmas.{flags_agree}

-- one more period at the end of a run
pub after_more : (net : Network) (plan : Plan) (state : State) (A : List (List ℕ)) (counts : List ℕ) → planned_after net plan state (A ++ counts ∷ []) ≡ planned_advance net plan counts (planned_after net plan state A)
after_more net plan state [] counts = refl
after_more net plan state (a ∷ A) counts = after_more net plan (planned_advance net plan a state) A counts

pub lines_more : (net : Network) (plan : Plan) (state : State) (A : List (List ℕ)) (counts : List ℕ) → planned_lines_from net plan state (A ++ counts ∷ []) ≡ planned_lines_from net plan state A ++ planned_line net plan (planned_after net plan state A) counts ∷ []
lines_more net plan state [] counts = refl
lines_more net plan state (a ∷ A) counts = ap (λ ls. planned_line net plan state a ∷ ls) (lines_more net plan (planned_advance net plan a state) A counts)

-- the period counts the arrivals before
pub periods : (net : Network) (plan : Plan) (state : State) (A : List (List ℕ)) → (planned_after net plan state A).period ≡ state.period + length A
periods net plan state [] = omega arith
periods net plan state (a ∷ A) =
    let rest : (planned_after net plan (planned_advance net plan a state) A).period ≡ state.period + 1 + length A = periods net plan (planned_advance net plan a state) A in
    omega arith

-- what holds of each state of a run holds of the last
last_of : (net : Network) (plan : Plan) (P : State → Type 0) (state : State) (A : List (List ℕ)) → AllByRecursion P (planned_run_from net plan state A) → P (planned_after net plan state A)
last_of net plan P state [] all = all.0
last_of net plan P state (a ∷ A) all = last_of net plan P (planned_advance net plan a state) A all.1

-- so each queue is at most its bound
pub within : (s : Planned) → IsPlanned s → IsWithin s
within s p =
    let A = p.run.arrivals in
    let made = p.plan in
    let all = planned_bounded s.net p.acceptable.network made.flows made.denominator s.plan made.is A p.run.behind.taken.permitted in
    subst (λ (q : List ℕ). AllByRecursion (λ k. entry q k ≤ entry s.plan.bounds k) (movement_numbers s.net)) (sym p.run.behind.stands.queues)
    (last_of s.net s.plan (IsWithinPlan s.net s.plan) (opening s.net) A all)

-- a period with the flags of the plan is one of the plan
pub stands_next : (net : Network) (plan : Plan) (old new : Standing) (counts : List ℕ) → ((state : State) → Stands net old state → Stands net new (open_step net (plan_flags net plan old.period) (arrivals_of net counts) state))
    → (state : State) → Stands net old state → Stands net new (planned_advance net plan counts state)
stands_next net plan old new counts steps state stands =
    subst (λ (next : State). Stands net new next) (sym (flags_agree net plan counts state ∙ ap (λ t. open_step net (plan_flags net plan t) (arrivals_of net counts) state) (sym stands.period))) (steps state stands)

-- a run behind one more period
pub behind_more : (net : Network) (plan : Plan) (counts : List ℕ) (old new : Standing) → ((A : List (List ℕ)) → HasTaken net old A → HasTaken net new (A ++ counts ∷ []))
    → ((state : State) → Stands net old state → Stands net new (planned_advance net plan counts state)) → (A : List (List ℕ)) → IsBehind net plan old A → IsBehind net plan new (A ++ counts ∷ [])
behind_more net plan counts old new takes steps A behind = record {
  stands = subst (λ (s : State). Stands net new s) (sym (after_more net plan (opening net) A counts)) (steps _ behind.stands);
  taken = takes A behind.taken;
}

pub planned_next : (s : Planned) → IsPlanned s → (counts last : List ℕ) (new : Standing) → IsOn s.net new → ((A : List (List ℕ)) → HasTaken s.net s.at A → HasTaken s.net new (A ++ counts ∷ []))
    → ((state : State) → Stands s.net s.at state → Stands s.net new (planned_advance s.net s.plan counts state)) → IsPlanned (record s { at = new; stages = last })
planned_next s p counts last new on takes steps = record {
  acceptable = p.acceptable;
  plan = p.plan;
  on = on;
  run = record { arrivals = p.run.arrivals ++ counts ∷ []; behind = behind_more s.net s.plan counts s.at new takes steps p.run.arrivals p.run.behind };
}
