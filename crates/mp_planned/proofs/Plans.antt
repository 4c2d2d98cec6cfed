-- The lights of a plan serve its demand, and so no queue is above its bound.
use Rattle.std.proofs.Common.{◌≡◌, ◌==◌, ℕ, zero, suc, ◌+◌, ◌-◌, ◌*◌, ◌/◌, ◌%◌, ◌≤◌, ◌<◌, max, Bool, true, false, cond, List, [], ◌∷◌, length, get_or, map, filter, find, sum, sum_by, unwrap_or, Option, Some, None, arith, refl, sym, ◌∙◌, ap, subst, mul-le-mul_left, eq-eqb, eqb-true, ◌||◌, mod-lt, div-add-mod', ⊎_elim, lit≤}
use Rattle.std.proofs.Math.Nat.{add-mod_right, mod-eq_of_lt}
use Rattle.std.proofs.lemmas.Bool.{false≢true, ne_eqb, or_cases, or_left, or_right}
use Rattle.std.specs.List.{AllByRecursion, list_any, range_with_len}
use Rattle.std.proofs.lemmas.List.FromFn.{length-map-range_with_len}
use Rattle.mp_laws.proofs.Cases.{two_case}
use Rattle.mp_laws.proofs.Copies.{map_reads}
use Rattle.mp_laws.proofs.Credits.{lower, upper}
use Rattle.mp_laws.proofs.LinkSplits.{link_splits}
use Rattle.mp_laws.proofs.Lists.{at_in, at_index, each_in, find_none, from_numbers, has_filter, in_numbers, numbered}
use Rattle.mp_laws.proofs.StartedCases.{started_acceptable}
use Rattle.mp_model.specs.Arrivals.{IsPermitted, arrivals_of}
use Rattle.mp_model.specs.GuardedBursts.{quotient_up}
use Rattle.mp_model.specs.Lights.{CarriesRate, CarryRates, HasSurplus, HoldsRate, HoldsUnserved, ServeDemand, ServesRate, greens_in, lit_pass, lit_state}
use Rattle.mp_model.specs.Network.{Network, Junction, burst_before, entry, flow_of, from_of, has, into_link, junction_at, junction_of_movement, link_numbers, movement_numbers, no_junction, out_of, share_of, stage_at, stage_numbers, stands_in, start_of}
use Rattle.mp_model.specs.NetworkRules.{IsNetwork}
use Rattle.mp_model.specs.Plans.{IsCarried, IsPlan, Plan, flow_before, green_of, greens_in_plan, greatest_of, home_of, is_planned_green, plan_lights, planned_advance, planned_greens, planned_run, planned_run_from, running_from, stands_in_stage, wanted}
use Rattle.mp_model.specs.Split.{IsSplit, split_counts}
use Rattle.mp_model.specs.Step.{State, queue, step_by}
use Rattle.mp_served.proofs.Bounds.{queues_bounded}
use Rattle.mp_served.proofs.Places.{holder_stands, range_has}
use Rattle.mp_served.proofs.Quotients.{quotient_holds}
use Rattle.mp_served.proofs.Rows.{from_none, listed}
use Rattle.mp_planned.specs.Plans.{IsWithinPlan, PlannedCase, plan_demand}
use Rattle.mp_planned.proofs.Running.{cycle_any, greens_same, row_serves, stage_greens}

-- ---- the home of a movement
found_in : (p : ℕ → Bool) (xs : List ℕ) (s : ℕ) → find p xs ≡ Some s → (p s ≡ true) × (has xs s ≡ true)
found_in p [] s e = cc
found_in p (x ∷ xs) s e = go (p x) refl (found_in p xs s) e
  where
    go : (b : Bool) → p x ≡ b → (find p xs ≡ Some s → (p s ≡ true) × (has xs s ≡ true)) → cond b (Some x) (find p xs) ≡ Some s → (p s ≡ true) × (has (x ∷ xs) s ≡ true)
    go true is more e = let same : x ≡ s = cc in (subst (λ y. p y ≡ true) same is, or_left (x == s) (has xs s) (eq-eqb x s same))
    go false is more e = let m = more e in (m.0, or_right (x == s) (has xs s) m.1)

none_stands : (k : ℕ) (stages : List (List ℕ)) → AllByRecursion (λ stage. has stage k ≡ false) stages → list_any (λ stage. has stage k) stages ≡ false
none_stands k [] h = refl
none_stands k (stage ∷ stages) h = ap (λ b. b || list_any (λ stage. has stage k) stages) h.0 ∙ none_stands k stages h.1

pub record IsHome (j : Junction) (k s : ℕ) : Type 0 where
  pub low : 1 ≤ s
  pub high : s ≤ length j.stages
  pub holds : has (stage_at j s) k ≡ true

home_is : (j : Junction) (k : ℕ) → stands_in j k ≡ true → IsHome j k (home_of j k)
home_is j k stands = go (find (λ s. has (stage_at j s) k) (stage_numbers j)) refl
  where
    go : (o : Option ℕ) → find (λ s. has (stage_at j s) k) (stage_numbers j) ≡ o → IsHome j k (unwrap_or o 0)
    go (Some s) e =
        let f = found_in (λ s. has (stage_at j s) k) (stage_numbers j) s e in
        let i = in_numbers (length j.stages) s f.1 in
        record { low = i.0; high = omega (arith, i.1); holds = f.0 }
    go None e =
        let none = find_none (λ s. has (stage_at j s) k) (stage_numbers j) e in
        let all = from_numbers (λ stage. has stage k ≡ false) [] (length j.stages) j.stages (omega arith) none in
        absurd (false≢true (sym (none_stands k j.stages all) ∙ stands))

-- ---- the greens of a plan
greatest_at_least : (f : ℕ → ℕ) (xs : List ℕ) (k : ℕ) → has xs k ≡ true → f k ≤ greatest_of (map f xs)
greatest_at_least f [] k in' = absurd (false≢true in')
greatest_at_least f (x ∷ xs) k in' = ⊎_elim
    (λ (here : (x == k) ≡ true). let m = ap f (eqb-true x k here) in omega arith)
    (λ (later : has xs k ≡ true). let m = greatest_at_least f xs k later in omega arith)
    (or_cases (x == k) (has xs k) in')

has_length : (xs : List ℕ) (k : ℕ) → has xs k ≡ true → 1 ≤ length xs
has_length [] k in' = absurd (false≢true in')
has_length (x ∷ xs) k in' = omega arith

module _ (net : Network) (ok : IsNetwork net) (f : List ℕ) (d : ℕ) (plan : Plan) (is : IsPlan net f d plan) where
  abbrev W : ℕ
  W = net.shares

  abbrev H : ℕ
  H = net.per

  abbrev C : ℕ
  C = plan.cycle

  unit_some : 1 ≤ net.shares * net.per * d
  unit_some =
      let a = ok.shares in
      let b : net.shares * 1 ≤ net.shares * net.per = mul-le-mul_left net.shares ok.per in
      let c : net.shares * net.per * 1 ≤ net.shares * net.per * d = mul-le-mul_left (net.shares * net.per) is.carry.some in
      omega arith

  module _ (k : ℕ) (in' : has (movement_numbers net) k ≡ true) where
    abbrev j : ℕ
    j = junction_of_movement net k

    abbrev jn : Junction
    jn = junction_at net j

    abbrev home : ℕ
    home = home_of jn k

    home_holds : IsHome jn k home
    home_holds = home_is jn k (holder_stands net ok k in')

    greens_are : greens_in_plan plan j ≡ planned_greens net f d C jn
    greens_are = ap (λ gs. get_or gs (j - 1) []) is.greens ∙ map_reads (planned_greens net f d C) no_junction net.junctions (j - 1)

    abbrev green : ℕ
    green = green_of net f d C jn home

    green_is : get_or (greens_in_plan plan j) (home - 1) 0 ≡ green
    green_is =
        let h = home_holds in
        ap (λ gs. get_or gs (home - 1) 0) greens_are ∙ numbered (green_of net f d C jn) (length jn.stages) home (range_has 1 (length jn.stages) home h.low (omega (arith, h.high)))

    green_wanted : wanted net f d C k ≤ green
    green_wanted =
        let h = home_holds in
        let mine = has_filter (λ i. home_of jn i == home) k (stage_at jn home) h.holds (eq-eqb home home refl) in
        let g = greatest_at_least (λ i. max 1 (wanted net f d C i)) (filter (λ i. home_of jn i == home) (stage_at jn home)) k mine in
        omega arith

    -- the green serves what comes in a cycle
    green_serves : C * (share_of net k * flow_before net f k) ≤ net.shares * net.per * d * flow_of net k * green
    green_serves =
        let some_flow : 1 ≤ flow_of net k = at_in (λ k. 1 ≤ flow_of net k) k (movement_numbers net) in' ok.flow in
        let some : net.shares * net.per * d * 1 ≤ net.shares * net.per * d * flow_of net k = mul-le-mul_left (net.shares * net.per * d) some_flow in
        let u = unit_some in
        let q = quotient_holds (C * share_of net k * flow_before net f k) (net.shares * net.per * d * flow_of net k) (omega arith) in
        let m = mul-le-mul_left (net.shares * net.per * d * flow_of net k) green_wanted in
        omega arith

    abbrev lit : ℕ → Bool
    lit t = is_planned_green net plan t k

    abbrev stands : ℕ → Bool
    stands s = stands_in_stage jn s k

    again : (t : ℕ) → lit (t + C) ≡ lit t
    again t = ap (λ n. stands (running_from 1 (greens_in_plan plan j) n)) (add-mod_right t C)

    in_cycle : (a : ℕ) → green ≤ greens_in lit a C
    in_cycle a =
        let h = home_holds in
        let low = h.low in
        let gs = greens_in_plan plan j in
        let size : length gs ≡ length jn.stages = ap (λ (gs : List ℕ). length gs) greens_are ∙ length-map-range_with_len (green_of net f d C jn) 1 (length jn.stages) in
        let fits : sum gs ≤ C = at_index (λ gs. sum gs ≤ C) [] plan.greens (j - 1) is.fit (omega arith) in
        let place : 1 + (home - 1) ≡ home = omega arith in
        let here : stands (1 + (home - 1)) ≡ true = ap stands place ∙ ap (λ b. cond b false (has (stage_at jn home) k)) (ne_eqb home 0 (λ e. omega arith)) ∙ h.holds in
        let one = stage_greens stands gs 1 C (home - 1) fits (omega (arith, h.high)) here in
        let same : greens_in lit 0 C ≡ greens_in (λ n. stands (running_from 1 gs n)) 0 C = greens_same lit (λ n. stands (running_from 1 gs n)) 0 C (λ u ge lt. ap (λ n. stands (running_from 1 gs n)) (mod-eq_of_lt (omega arith))) in
        let any = cycle_any lit C a again in
        let g = green_is in
        omega arith

    serves_in : (a n : ℕ) → n * (share_of net k * flow_before net f k) ≤ net.shares * net.per * d * flow_of net k * greens_in lit a n + share_of net k * flow_before net f k * (C - 1)
    serves_in a n =
        let some = is.cycle in
        let parts : n / C * C + n % C ≡ n = div-add-mod' n C in
        let rest = mod-lt n {m = C} some in
        row_serves lit C green (share_of net k * flow_before net f k) (net.shares * net.per * d * flow_of net k) (n / C) (n % C) n in_cycle green_serves (sym parts) (omega arith) a

    -- the rate carries what comes
    carries_rate : CarriesRate net (plan_demand net f d C) k
    carries_rate =
        let l = from_of net k in
        let link = at_in (λ k. has (link_numbers net) (from_of net k) ≡ true) k (movement_numbers net) in' ok.from in
        let e = at_in (IsCarried net f d) l (link_numbers net) link is.carry.carried in
        let m = ap (λ x. share_of net k * net.per * x) e in
        omega arith

    -- the split lets at most this come early
    abbrev surplus : ℕ
    surplus = length (out_of net (from_of net k)) * (net.shares - 1)

    has_surplus : HasSurplus net k surplus
    has_surplus n r =
        let l = from_of net k in
        let ks = out_of net l in
        let link = at_in (λ k. has (link_numbers net) (from_of net k) ≡ true) k (movement_numbers net) in' ok.from in
        let split = at_in (λ l. IsSplit net.shares (share_of net) (out_of net l)) l (link_numbers net) link (link_splits net ok) in
        let mine : has ks k ≡ true = has_filter (λ i. from_of net i == l) k (movement_numbers net) in' (eq-eqb l l refl) in
        let up = at_in (λ k. share_of net k * n ≤ net.shares * split_counts net.shares (share_of net) ks n k + (length ks - 1) * (net.shares - 1)) k ks mine (upper net.shares (share_of net) ks split.sums split.some split.distinct n) in
        let low = lower net.shares (share_of net) ks split.sums split.some split.distinct (n + r) k in
        let one = has_length ks k mine in
        let less : length ks * (net.shares - 1) ≡ (length ks - 1) * (net.shares - 1) + (net.shares - 1) = (let p : length ks ≡ (length ks - 1) + 1 = omega arith in ap (λ n. n * (net.shares - 1)) p ∙ omega arith) in
        let some = ok.shares in
        omega arith

  abbrev surplus_of : ℕ → ℕ
  surplus_of k = length (out_of net (from_of net k)) * (net.shares - 1)

  -- what a bound holds
  bound_holds : (k periods : ℕ) → has (movement_numbers net) k ≡ true → periods ≤ C → HoldsRate net (plan_demand net f d C) (surplus_of k) plan.bounds k periods (entry plan.bounds k)
  bound_holds k periods in' few =
      let crowd : ℕ = burst_before net k + sum_by (entry plan.bounds) (into_link net (from_of net k)) in
      let x : ℕ = share_of net k * (crowd * d * net.per + flow_before net f k * C) + d * net.per * length (out_of net (from_of net k)) * (net.shares - 1) in
      let q = quotient_holds x (net.shares * net.per * d) unit_some in
      let e = at_in (λ k. entry plan.bounds k ≡ start_of net k + quotient_up (share_of net k * ((burst_before net k + sum_by (entry plan.bounds) (into_link net (from_of net k))) * d * net.per + flow_before net f k * C) + d * net.per * length (out_of net (from_of net k)) * (net.shares - 1)) (net.shares * net.per * d)) k (movement_numbers net) in' is.bounds in
      let m = ap (λ b. net.shares * (net.shares * net.per * d) * b) e in
      let w = mul-le-mul_left net.shares q in
      let v = mul-le-mul_left (net.shares * (share_of net k * flow_before net f k)) few in
      omega arith

  carry_rates : CarryRates net (plan_demand net f d C) surplus_of plan.bounds
  carry_rates = record {
    surpluses = each_in (λ k. HasSurplus net k (surplus_of k)) (movement_numbers net) has_surplus;
    bursts = each_in (HoldsUnserved net (plan_demand net f d C) surplus_of plan.bounds) (movement_numbers net) (λ k in'. bound_holds k (C - 1) in' (omega arith));
  }

  serve_demand : (arrivals : ℕ → List ℕ) (T : ℕ) → IsPermitted net (map arrivals (range_with_len 0 T)) → ServeDemand net (plan_lights net plan arrivals) (plan_demand net f d C) T
  serve_demand arrivals T permitted = record {
    some = unit_some;
    permitted = permitted;
    carries = each_in (CarriesRate net (plan_demand net f d C)) (movement_numbers net) carries_rate;
    serves = each_in (ServesRate net (plan_lights net plan arrivals) (plan_demand net f d C) T) (movement_numbers net) (λ k in' a n le waits. serves_in k in' a n);
  }

  -- ---- the run
  module _ (arrivals : ℕ → List ℕ) where
    state_at : ℕ → State
    state_at t = lit_state net (plan_lights net plan arrivals) t

    period_is : (t : ℕ) → (lit_state net (plan_lights net plan arrivals) t).period ≡ t
    period_is zero = refl
    period_is (suc t) = let more = period_is t in omega arith

    step_is : (t : ℕ) → planned_advance net plan (arrivals t) (lit_state net (plan_lights net plan arrivals) t) ≡ lit_state net (plan_lights net plan arrivals) (suc t)
    step_is t =
        let state = lit_state net (plan_lights net plan arrivals) t in
        ap (λ n. step_by net (lit_pass net (plan_lights net plan arrivals) n (queue state)) (arrivals_of net (arrivals t)) state) (period_is t)

    all_states : (P : State → Type 0) (A : List (List ℕ)) (s : ℕ) → ((i : ℕ) → i < length A → arrivals (s + i) ≡ get_or A i []) → ((t : ℕ) → t ≤ s + length A → P (lit_state net (plan_lights net plan arrivals) t)) → AllByRecursion P (planned_run_from net plan (lit_state net (plan_lights net plan arrivals) s) A)
    all_states P [] s same each = (each s (omega arith), tt)
    all_states P (a ∷ A) s same each =
        let place : s + 0 ≡ s = omega arith in
        let here : arrivals s ≡ a = ap arrivals (sym place) ∙ same 0 (omega arith) in (
          each s (omega arith),
          subst (λ state. AllByRecursion P (planned_run_from net plan state A)) (sym (step_is s) ∙ ap (λ x. planned_advance net plan x (lit_state net (plan_lights net plan arrivals) s)) here)
              (all_states P A (suc s) (λ i lt. (let next : suc s + i ≡ s + suc i = omega arith in ap arrivals next) ∙ same (suc i) (omega arith)) (λ t le. each t (omega arith))),
        )

  bounded : (arrivals : ℕ → List ℕ) (T : ℕ) → IsPermitted net (map arrivals (range_with_len 0 T)) → (t : ℕ) → t ≤ T → IsWithinPlan net plan (lit_state net (plan_lights net plan arrivals) t)
  bounded arrivals T permitted t in_time =
      let all = queues_bounded net ok (plan_lights net plan arrivals) (plan_demand net f d C) T (serve_demand arrivals T permitted) surplus_of plan.bounds carry_rates t in_time in
      let some = is.cycle in
      each_in (λ k. queue (lit_state net (plan_lights net plan arrivals) t) k ≤ entry plan.bounds k) (movement_numbers net) (λ k in'.
      at_in (λ k. (bound : ℕ) → HoldsRate net (plan_demand net f d C) (surplus_of k) plan.bounds k (1 + (C - 1)) bound → queue (lit_state net (plan_lights net plan arrivals) t) k ≤ bound) k (movement_numbers net) in' all (entry plan.bounds k) (bound_holds k (1 + (C - 1)) in' (omega arith)))

pub plan_serves : (net : Network) → IsNetwork net → (f : List ℕ) (d : ℕ) (plan : Plan) → IsPlan net f d plan → (arrivals : ℕ → List ℕ) (T : ℕ) → IsPermitted net (map arrivals (range_with_len 0 T)) → ServeDemand net (plan_lights net plan arrivals) (plan_demand net f d plan.cycle) T
plan_serves net ok f d plan is arrivals T permitted = serve_demand net ok f d plan is arrivals T permitted

pub planned_bounded : (net : Network) → IsNetwork net → (f : List ℕ) (d : ℕ) (plan : Plan) → IsPlan net f d plan → (A : List (List ℕ)) → IsPermitted net A → AllByRecursion (IsWithinPlan net plan) (planned_run net plan A)
planned_bounded net ok f d plan is A permitted =
    let g : ℕ → List ℕ = λ t. get_or A t [] in
    all_states net ok f d plan is g (IsWithinPlan net plan) A 0 (from_none A)
    (λ t le. bounded net ok f d plan is g (length A) (subst (IsPermitted net) (sym (listed A g 0 (from_none A))) permitted) t (omega arith))

pub planned_met : PlannedCase
planned_met = record {
  acceptable = started_acceptable 50 30 (lit≤ tt) (lit≤ tt);
  plan = record { carry = record { some = lit≤ tt; carried = (refl, (refl, tt)) }; cycle = lit≤ tt; greens = refl; fit = (lit≤ tt, tt); bounds = (refl, (refl, tt)) };
  permitted = record { counts = two_case.permitted.counts; windows = two_case.permitted.windows };
}
