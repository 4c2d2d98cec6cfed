-- What is made is a plan.
use Rattle.std.proofs.Common.{◌≡◌, ◌≤◌, ℕ, zero, suc, ◌+◌, ◌-◌, ◌*◌, List, [], ◌∷◌, length, map, sum, sum_by, get_or, ℤ, pos, unsigned_abs, Some, Err, inr, arith, refl, sym, ◌∙◌, ap, subst, le_refl}
use Rattle.std.specs.List.{AllByRecursion}
use Rattle.std.proofs.lemmas.List.{length-map}
use Rattle.std.proofs.lemmas.List.FromFn.{length-range_with_len}
use Rattle.mp_flow.specs.Systems.{AreFlows, Flows}
use Rattle.mp_laws.proofs.Lists.{AllOf-map, at_in, each_in, from_numbers, numbered}
use Rattle.mp_laws.proofs.Sums.{sum_by-same}
use Rattle.mp_model.specs.Network.{Network, Junction, entry, from_of, into_link, junction_at, junction_numbers, link_at, link_numbers, movement_numbers, no_junction, share_of}
use Rattle.mp_model.specs.Plans.{CarryNetwork, IsCarried, IsPlan, Plan, planned_bound, planned_greens}
use Rattle.mp_planned.specs.Bounds.{ArePlannedBounds}
use Rattle.mp_verdict.specs.Worst.{IsFlow, naturals_in}
use Rattle.mp_verdict.proofs.FlowNumbers.{flow_is}
use Rattle.mp_plan.specs.declared.fault.PlanFault.{PlanFault}
use Rattle.mp_plan.specs.declared.fault.PlanFault.TheVariants.{Cycle, Flow, Full, Overflow, NoMemory}
use Rattle.mp_plan.specs.Ends.{BoundsEnd}
use Rattle.mp_plan.specs.Made.{HasFlows, HasGreens, IsPlanOn, IsRefused, IsStatedPlan, denominator_of, rates_of}
use Rattle.mp_plan.specs.Stated.{stated_bounds}
use Rattle.mp_plan.proofs.Bounding.{bounds_room}
use Rattle.mp_plan.proofs.Greening.{greens_are}

rate_at : (xs : List ℤ) (i : ℕ) → get_or (map unsigned_abs xs) i 0 ≡ unsigned_abs (get_or xs i (pos 0))
rate_at [] i = refl
rate_at (x ∷ xs) zero = refl
rate_at (x ∷ xs) (suc i) = rate_at xs i

pub carries : (net : Network) (flows : Flows) → AreFlows net flows → CarryNetwork net (rates_of flows) (denominator_of flows)
carries net flows a =
    let is : IsFlow net (unsigned_abs flows.d) (naturals_in flows.rate) (naturals_in flows.unit) = flow_is net flows a in
    record {
      some = is.some;
      carried = each_in (IsCarried net (rates_of flows) (denominator_of flows)) (link_numbers net) (λ l in'.
          let row = at_in (λ l. net.shares * naturals_in flows.rate l ≡ sum_by (λ j. share_of net j * naturals_in flows.rate (from_of net j)) (into_link net l) + unsigned_abs flows.d * (net.shares * (link_at net l).rate)) l (link_numbers net) in' is.rate in
          let here : net.shares * entry (rates_of flows) l ≡ net.shares * naturals_in flows.rate l = ap (λ n. net.shares * n) (rate_at flows.rate (l - 1)) in
          let same = sum_by-same (λ k. share_of net k * entry (rates_of flows) (from_of net k)) (λ k. share_of net k * naturals_in flows.rate (from_of net k)) (λ k. ap (λ n. share_of net k * n) (rate_at flows.rate (from_of net k - 1))) (into_link net l) in
          omega (arith, row, here, same));
    }

all_mapped : {X Y : Type 0} (P : Y → Type 0) (g : X → Y) (xs : List X) → AllByRecursion (λ x. P (g x)) xs → AllByRecursion P (map g xs)
all_mapped P g [] h = tt
all_mapped P g (x ∷ xs) h = (h.0, all_mapped P g xs h.1)

pub greens_fit : (net : Network) (f : List ℕ) (d cycle : ℕ) → AllByRecursion (HasGreens net f d cycle) (junction_numbers net) → AllByRecursion (λ greens. sum greens ≤ cycle) (map (planned_greens net f d cycle) net.junctions)
greens_fit net f d cycle has =
    all_mapped (λ greens. sum greens ≤ cycle) (planned_greens net f d cycle) net.junctions
    (from_numbers (λ (j : Junction). sum (planned_greens net f d cycle j) ≤ cycle) no_junction (length net.junctions) net.junctions (le_refl (length net.junctions))
    (AllOf-map (HasGreens net f d cycle) (λ j. sum (planned_greens net f d cycle (junction_at net j)) ≤ cycle) (λ j h. subst (λ gs. sum gs ≤ cycle) (greens_are net f d cycle (junction_at net j) h.greens h.stated) h.fit) (junction_numbers net) has))

pub plan_made : (net : Network) (flows : Flows) (plan : Plan) → AreFlows net flows → 1 ≤ plan.cycle → plan.greens ≡ map (planned_greens net (rates_of flows) (denominator_of flows) plan.cycle) net.junctions →
    AllByRecursion (HasGreens net (rates_of flows) (denominator_of flows) plan.cycle) (junction_numbers net) → ArePlannedBounds net (rates_of flows) (denominator_of flows) plan.cycle plan.bounds → IsPlan net (rates_of flows) (denominator_of flows) plan
plan_made net flows plan a some greens has are = record {
  carry = carries net flows a;
  cycle = some;
  greens = greens;
  fit = subst (AllByRecursion (λ greens. sum greens ≤ plan.cycle)) (sym greens) (greens_fit net (rates_of flows) (denominator_of flows) plan.cycle has);
  bounds = each_in (λ k. entry plan.bounds k ≡ planned_bound net (rates_of flows) (denominator_of flows) plan.cycle plan.bounds k) (movement_numbers net) (λ k in'.
      ap (λ xs. entry xs k) are ∙ numbered (planned_bound net (rates_of flows) (denominator_of flows) plan.cycle plan.bounds) (length net.movements) k in');
}

-- both of what is ensured of it
pub record Made (net : Network) (cycle : ℕ) (plan : Plan) : Type 0 where
  pub on : IsPlanOn net plan
  pub stated : IsStatedPlan net cycle plan

pub made : (net : Network) (flows : Flows) (cycle : ℕ) (greens : List (List ℕ)) (bounds : List ℕ) (plan : Plan) → plan ≡ record { cycle = cycle; greens = greens; bounds = bounds } → HasFlows net flows → AreFlows net flows → 1 ≤ cycle →
    greens ≡ map (planned_greens net (rates_of flows) (denominator_of flows) cycle) net.junctions → AllByRecursion (HasGreens net (rates_of flows) (denominator_of flows) cycle) (junction_numbers net) →
    ArePlannedBounds net (rates_of flows) (denominator_of flows) cycle bounds → stated_bounds net (rates_of flows) (denominator_of flows) cycle bounds ≡ Some bounds → Made net cycle plan
made net flows cycle greens bounds plan is has a some rows fit are stated = subst (Made net cycle) (sym is) (record {
  on = record {
    flows = rates_of flows;
    denominator = denominator_of flows;
    is = it;
    no_cycle = has.no_cycle;
    listed = ap length are ∙ length-map (movement_numbers net) (planned_bound net (rates_of flows) (denominator_of flows) cycle bounds) ∙ length-range_with_len 1 (length net.movements);
    few = bounds_room net (rates_of flows) (denominator_of flows) cycle bounds bounds stated;
  };
  stated = record { flows = flows; has = has; greens = fit; bounds = stated; is = it; cycle_is = refl };
})
  where
    it : IsPlan net (rates_of flows) (denominator_of flows) (record { cycle = cycle; greens = greens; bounds = bounds })
    it = plan_made net flows (record { cycle = cycle; greens = greens; bounds = bounds }) a some rows fit are

-- the cause at the bounds is the cause of all
pub bounds_refused : (A : Type 0) (net : Network) (flows : Flows) (cycle : ℕ) → HasFlows net flows → AllByRecursion (HasGreens net (rates_of flows) (denominator_of flows) cycle) (junction_numbers net) → (fault : PlanFault) →
    BoundsEnd {A = A} net (rates_of flows) (denominator_of flows) cycle (Err fault) → IsRefused net cycle fault
bounds_refused A net flows cycle has greens (Cycle link) e = absurd e
bounds_refused A net flows cycle has greens Flow e = absurd e
bounds_refused A net flows cycle has greens (Full junction) e = absurd e
bounds_refused A net flows cycle has greens Overflow e = (flows, has, inr (record { greens = greens; bounds = e.bounds; are = e.are; passes = e.passes }))
bounds_refused A net flows cycle has greens NoMemory e = tt
