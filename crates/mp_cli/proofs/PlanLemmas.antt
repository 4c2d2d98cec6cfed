-- How `plan` comes to its plan.
use Rattle.std.proofs.Common.{◌≡◌, ℕ, sym, subst, inl, inr, ⊎_elim}
use Rattle.mp_model.specs.Network.{Network}
use Rattle.mp_model.specs.NetworkRules.{IsNetwork}
use Rattle.mp_model.specs.Plans.{Plan}
use Rattle.mp_plan.specs.Made.{IsPlanOn, IsRefused, IsStatedPlan}
use Rattle.mp_plan.specs.declared.fault.PlanFault.{PlanFault}
use Rattle.mp_plan.specs.declared.fault.PlanFault.TheVariants as fault
use Rattle.mp_planned.proofs.Plans.{planned_bounded}
use Rattle.mp_cli.specs.declared.outcome.Outcome.{Outcome}
use Rattle.mp_cli.specs.declared.outcome.Outcome.TheVariants.{NoMemory}
use Rattle.mp_cli.specs.Outcomes.{outcome_of_plan}
use Rattle.mp_cli.specs.Planning.{IsUnplanned, PlanHolds, StreamsPlan, StreamsUnderPlan}
use Rattle.mp_cli.specs.Ports.{Ports, IsUntouched, RefusedOr}

-- why no plan was made
pub unplanned_so : (broken : PlanFault) (net : Network) (C : ℕ) → IsRefused net C broken → IsUnplanned (outcome_of_plan broken) net C
unplanned_so (fault.Cycle link) net C refused = refused
unplanned_so fault.Flow net C refused = refused
unplanned_so (fault.Full j) net C refused = refused
unplanned_so fault.Overflow net C refused = refused
unplanned_so fault.NoMemory net C refused = tt

-- a plan that was made keeps its bounds, and was run unless memory ran out
pub plan_so : (net : Network) (C : ℕ) (plan : Plan) (outcome : Outcome) (ports : Ports) → IsNetwork net → IsStatedPlan net C plan → IsPlanOn net plan → StreamsUnderPlan outcome net plan ports
    → RefusedOr (IsUnplanned outcome net C) ports (PlanHolds net C (StreamsPlan outcome net ports))
plan_so net C plan outcome ports ok stated on so =
    ⊎_elim (λ (refused : (outcome ≡ NoMemory) × IsUntouched ports). inl (subst (λ (o : Outcome). IsUnplanned o net C) (sym refused.0) tt, refused.1))
    (λ (runs : StreamsPlan outcome net ports plan). inr (record { plan = plan; stated = stated; on = on; within = λ A permitted. planned_bounded net ok on.flows on.denominator plan on.is A permitted; is = runs })) so
