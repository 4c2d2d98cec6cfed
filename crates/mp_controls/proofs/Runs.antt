-- What a drift value that each period keeps tells of the queues of a run.
use Rattle.std.proofs.Common.{le_trans, subst, sym, true, ◌<◌, ◌/◌, ⊎_elim, ◌≡◌, ℕ, ◌+◌, ◌-◌, ◌*◌, ◌≤◌, List, [], ◌∷◌, length, map, sum_by, nat_abs, arith, ◌∙◌, ap, mul-le-mul, zero-le}
use Rattle.std.specs.List.{AllByRecursion}
use Rattle.mp_model.specs.Arrivals.{HasCounts, arrivals_of, next_level, StaysWithin}
use Rattle.mp_model.specs.Bounds.{AreBounds, IsRoot, credit_term, step_term, drift_constant, greatest_drift, queue_bound}
use Rattle.mp_model.specs.Certificate.{Cert, Certifies}
use Rattle.mp_model.specs.DriftValue.{corrected_queue, drift_value}
use Rattle.mp_model.specs.Network.{Network, movement_numbers, link_numbers, link_at, flow_of, start_of, has, entry}
use Rattle.mp_model.specs.NetworkRules.{IsNetwork}
use Rattle.mp_model.specs.Run.{opening, advance, run, run_from, state_after, greatest_stages}
use Rattle.mp_model.specs.Slack.{IsSlack}
use Rattle.mp_model.specs.Step.{State, queue}
use Rattle.mp_laws.specs.Periods.{IsWithin, phase_of}
use Rattle.mp_laws.proofs.Bounds.{all_greatest, period_is, bound_queue, Stays}
use Rattle.mp_laws.proofs.Drift.{near_queue}
use Rattle.mp_laws.proofs.Keeps.{few_queued}
use Rattle.mp_laws.proofs.Lists.{AllOf-map, all_of, at_in, each_in, numbered}
use Rattle.mp_laws.proofs.Permitted.{stays}
use Rattle.mp_laws.proofs.Sums.{sum_by-le_at, sum_by-same_at, sum_by-zero, terms_le}
use Rattle.mp_controls.specs.Lower.{StartsEmpty, AreLowerBounds}
use Rattle.mp_controls.specs.OneLower.{HasBurst}
use Rattle.mp_controls.proofs.Burst.{one_more}
use Rattle.std.proofs.lemmas.Bool.{cases_lt}
use Rattle.std.proofs.Math.Nat.{le-div_iff_mul-le}
use Rattle.mp_model.specs.EventCore.{Event, core_opening, core_after, closed_of}
use Rattle.mp_laws.proofs.PromptOrder.{prompt_order}
use Rattle.mp_laws.proofs.Levels.{windows_kept}
use Rattle.mp_controls.specs.Closer.{value_of, closer_drift, AreCloserBounds, RunStays}
use Rattle.mp_controls.proofs.Below.{below, some_ones}
use Rattle.mp_controls.proofs.Closer.{value_most, closer_kept}
use Rattle.mp_model.specs.Pressure.{AllGreatest}
use Rattle.mp_laws.specs.Periods.{IsPeriod}

-- where there is a movement, the drift constant is above 0
constant_some : (net : Network) → IsNetwork net → 1 ≤ length net.movements → 1 ≤ drift_constant net
constant_some net ok some =
    let m : ℕ → ℕ = λ k. step_term net k * step_term net k in
    let each = sum_by-le_at (λ k. 1) m (movement_numbers net) (each_in (λ k. 1 ≤ m k) (movement_numbers net) (λ k here.
    let flow = at_in (λ k. 1 ≤ flow_of net k) k (movement_numbers net) here ok.flow in
    let w = mul-le-mul (mul-le-mul ok.shares ok.per) flow in
    let s : 1 ≤ step_term net k = omega (arith, w) in
    omega (arith, mul-le-mul s s))) in
    omega (arith, each, some_ones (length net.movements) some)

-- at the opening nothing is queued, and the levels are 0
none_at_opening : (net : Network) → StartsEmpty net → sum_by (queue (opening net)) (movement_numbers net) ≡ 0
none_at_opening net empty = sum_by-same_at (queue (opening net)) (λ k. 0) (movement_numbers net) (each_in _ (movement_numbers net) (λ k i. numbered (start_of net) (length net.movements) k i ∙ at_in (λ k. start_of net k ≡ 0) k (movement_numbers net) i empty)) ∙ sum_by-zero (movement_numbers net)

levels_at_opening : (net : Network) → IsWithin net (λ l. 0)
levels_at_opening net = all_of (λ l. 0 ≤ net.per * (link_at net l).burst) (λ l. zero-le) (link_numbers net)

-- Where each period keeps the drift value at most a top, and that top tells something of a state, it holds of each state of a run.
module _ (net : Network) (ok : IsNetwork net) (top : ℕ)
    (kept : (stages : List ℕ) (arrivals q phase level q' phase' level' : ℕ → ℕ) → AllGreatest net q net.junctions stages → IsPeriod net stages arrivals q phase level q' phase' level' → IsWithin net level → drift_value net q phase level ≤ top → drift_value net q' phase' level' ≤ top)
    (Holds : State → Type 0)
    (tells : (state : State) (level : ℕ → ℕ) → IsWithin net level → drift_value net (queue state) (phase_of net state) level ≤ top → Holds state) where
  value_kept : (counts : List ℕ) (state : State) (level : ℕ → ℕ) → IsWithin net level → drift_value net (queue state) (phase_of net state) level ≤ top →
      drift_value net (queue (advance net counts state)) (phase_of net (advance net counts state)) (λ l. next_level net.per (link_at net l).rate (level l) (arrivals_of net counts l)) ≤ top
  value_kept counts state level within below =
      kept (greatest_stages net (queue state)) (arrivals_of net counts) (queue state) (phase_of net state) level (queue (advance net counts state)) (phase_of net (advance net counts state)) (λ l. next_level net.per (link_at net l).rate (level l) (arrivals_of net counts l))
      (all_greatest net (queue state) net.junctions ok.some_stage) (period_is net ok counts state level within) within below

  run_holds : (A : List (List ℕ)) (state : State) (level : ℕ → ℕ) → IsWithin net level → drift_value net (queue state) (phase_of net state) level ≤ top → Stays net level A → AllByRecursion Holds (run_from net state A)
  run_holds [] state level within below stays = (tells state level within below, tt)
  run_holds (counts ∷ A) state level within below stays =
      let next : ℕ → ℕ = λ l. next_level net.per (link_at net l).rate (level l) (arrivals_of net counts l) in (
        tells state level within below,
        run_holds A (advance net counts state) next
            (AllOf-map (λ l. StaysWithin net.per (link_at net l).burst (link_at net l).rate (level l) (map (λ counts. arrivals_of net counts l) (counts ∷ A))) (λ l. next l ≤ net.per * (link_at net l).burst) (λ l s. s.0) (link_numbers net) stays)
            (value_kept counts state level within below)
            (AllOf-map (λ l. StaysWithin net.per (link_at net l).burst (link_at net l).rate (level l) (map (λ counts. arrivals_of net counts l) (counts ∷ A))) (λ l. StaysWithin net.per (link_at net l).burst (link_at net l).rate (next l) (map (λ counts. arrivals_of net counts l) A)) (λ l s. s.1) (link_numbers net) stays),
      )

-- the square of a corrected queue is at most the drift value
term_most : (net : Network) (q phase level : ℕ → ℕ) (k : ℕ) → has (movement_numbers net) k ≡ true → nat_abs (corrected_queue net q phase level k) * nat_abs (corrected_queue net q phase level k) ≤ drift_value net q phase level
term_most net q phase level k here =
    let x : ℕ → ℕ = λ k. nat_abs (corrected_queue net q phase level k) in
    at_in (λ k. x k * x k ≤ drift_value net q phase level) k (movement_numbers net) here (terms_le (λ k. x k * x k) (movement_numbers net))

bound_listed : (net : Network) (root : ℕ) (bounds : List ℕ) → bounds ≡ map (queue_bound net root) (movement_numbers net) → (k : ℕ) → has (movement_numbers net) k ≡ true → entry bounds k ≡ queue_bound net root k
bound_listed net root bounds are k here = ap (λ bs. entry bs k) are ∙ numbered (queue_bound net root) (length net.movements) k here

-- a drift value at most a top keeps each queue at most the bound by its root
bounded_by : (net : Network) → IsNetwork net → (top root : ℕ) → IsRoot root top → (bounds : List ℕ) → bounds ≡ map (queue_bound net root) (movement_numbers net) → (state : State) (level : ℕ → ℕ) → IsWithin net level → drift_value net (queue state) (phase_of net state) level ≤ top →
    AllByRecursion (λ k. queue state k + 0 ≤ entry bounds k) (movement_numbers net)
bounded_by net ok top root is bounds are state level within below = each_in _ (movement_numbers net) (λ k here.
    let b = bound_listed net root bounds are k here in
    let x = nat_abs (corrected_queue net (queue state) (phase_of net state) level k) in
    let at = bound_queue net.shares net.per (queue state k) (credit_term net k) x top root (mul-le-mul ok.shares ok.per) (le_trans (term_most net (queue state) (phase_of net state) level k here) below) is.most (near_queue net ok (queue state) (phase_of net state) level within k here).1 in
    omega arith)

pub lower_bound : (net : Network) → IsNetwork net → StartsEmpty net → 1 ≤ length net.movements → (cert : Cert) → Certifies net cert → (E D : ℕ) → IsSlack cert E D → (bounds : List ℕ) → AreLowerBounds net E D bounds → RunStays net bounds 0
lower_bound net ok empty some cert c E D slack bounds are A permitted =
    let few = few_queued net ok E D (queue (opening net)) (phase_of net (opening net)) (λ l. 0) (levels_at_opening net) (let none = none_at_opening net empty in omega arith) in
    let constant = constant_some net ok some in
    run_holds net ok (greatest_drift net E D - 1)
    (λ stages arrivals q phase level q' phase' level' greatest period within top. let b = below net ok some cert c E D slack stages arrivals q phase level q' phase' level' greatest period within (omega arith) in omega arith)
    (λ state. AllByRecursion (λ k. queue state k + 0 ≤ entry bounds k) (movement_numbers net)) (bounded_by net ok (greatest_drift net E D - 1) are.root are.is_root bounds are.are)
    A (opening net) (λ l. 0) (levels_at_opening net) (omega (arith, few, constant)) (stays net A permitted)

opening_closer : (net : Network) → IsNetwork net → StartsEmpty net → (E D : ℕ) → drift_value net (queue (opening net)) (phase_of net (opening net)) (λ l. 0) ≤ closer_drift net E D
opening_closer net ok empty E D =
    let value = value_most net ok (queue (opening net)) (phase_of net (opening net)) (λ l. 0) (levels_at_opening net) in
    let start : drift_value net (queue (opening net)) (phase_of net (opening net)) (λ l. 0) ≤ value_of net 0 = subst (λ s. drift_value net (queue (opening net)) (phase_of net (opening net)) (λ l. 0) ≤ value_of net s) (none_at_opening net empty) value in
    omega (arith, start)

pub closer_bound : (net : Network) → IsNetwork net → StartsEmpty net → (cert : Cert) → Certifies net cert → (E D : ℕ) → IsSlack cert E D → (bounds : List ℕ) → AreCloserBounds net E D bounds → RunStays net bounds 0
closer_bound net ok empty cert c E D slack bounds are A permitted =
    run_holds net ok (closer_drift net E D) (closer_kept net ok cert c E D slack)
    (λ state. AllByRecursion (λ k. queue state k + 0 ≤ entry bounds k) (movement_numbers net)) (bounded_by net ok (closer_drift net E D) are.root are.is_root bounds are.are)
    A (opening net) (λ l. 0) (levels_at_opening net) (opening_closer net ok empty E D) (stays net A permitted)

root_most : (a root v : ℕ) → a * a ≤ v → v < (root + 1) * (root + 1) → a ≤ root
root_most a root v h most = ⊎_elim (λ (x : root < a). let n : root + 1 ≤ a = omega arith in absurd (omega (arith, mul-le-mul n n))) (λ (x : a ≤ root). x) (cases_lt root a)

one_lower_numbers : (r q x K root : ℕ) → 1 ≤ r → x + r ≤ root → r * q ≤ x + K → q + 1 ≤ (root + K) / r
one_lower_numbers r q x K root some h near = (le-div_iff_mul-le some).1 (omega arith)

-- where a vehicle more would keep within the greatest drift value, each queue is below its bound
pub one_lower : (net : Network) → IsNetwork net → StartsEmpty net → HasBurst net → 3 ≤ length net.movements → (cert : Cert) → Certifies net cert → (E D : ℕ) → IsSlack cert E D → (bounds : List ℕ) → AreBounds net E D bounds → RunStays net bounds 1
one_lower net ok empty burst three cert c E D slack bounds are A permitted =
    run_holds net ok (closer_drift net E D) (closer_kept net ok cert c E D slack)
    (λ state. AllByRecursion (λ k. queue state k + 1 ≤ entry bounds k) (movement_numbers net))
    (λ state level within below. each_in _ (movement_numbers net) (λ k here.
    let b = bound_listed net are.root bounds are.are k here in
    let x = nat_abs (corrected_queue net (queue state) (phase_of net state) level k) in
    let more = one_more net ok burst three cert c E D slack x (le_trans (term_most net (queue state) (phase_of net state) level k here) below) in
    let root = root_most (x + net.shares * net.per) are.root (greatest_drift net E D) more are.is_root.most in
    let at = one_lower_numbers (net.shares * net.per) (queue state k) x (credit_term net k) are.root (mul-le-mul ok.shares ok.per) root (near_queue net ok (queue state) (phase_of net state) level within k here).1 in
    omega arith))
    A (opening net) (λ l. 0) (levels_at_opening net) (opening_closer net ok empty E D) (stays net A permitted)

last_of_run : (net : Network) (Holds : State → Type 0) (A : List (List ℕ)) (state : State) → AllByRecursion Holds (run_from net state A) → Holds (state_after net state A)
last_of_run net Holds [] state h = h.0
last_of_run net Holds (counts ∷ A) state h = last_of_run net Holds A (advance net counts state) h.1

-- and so each queue of the core
pub core_one_lower : (net : Network) → IsNetwork net → net.delay ≡ 0 → StartsEmpty net → HasBurst net → 3 ≤ length net.movements → (cert : Cert) → Certifies net cert → (E D : ℕ) → IsSlack cert E D → (bounds : List ℕ) → AreBounds net E D bounds → (es : List Event) → AllByRecursion (HasCounts net) (closed_of net (core_opening net) es) →
    AllByRecursion (λ k. entry (core_after net (core_opening net) es).queues k + 1 ≤ entry bounds k) (movement_numbers net)
core_one_lower net ok prompt empty burst three cert c E D slack bounds are es counts =
    subst (λ Q. AllByRecursion (λ k. entry Q k + 1 ≤ entry bounds k) (movement_numbers net)) (sym (prompt_order net ok prompt es).queues)
    (last_of_run net (λ state. AllByRecursion (λ k. queue state k + 1 ≤ entry bounds k) (movement_numbers net)) (closed_of net (core_opening net) es) (opening net)
    (one_lower net ok empty burst three cert c E D slack bounds are (closed_of net (core_opening net) es) (record { counts = counts; windows = windows_kept net es })))

-- a run that stays at most some numbers stays lower than greater ones
pub lower_than : (net : Network) (bounds above : List ℕ) (less : ℕ) → AllByRecursion (λ k. entry bounds k + less ≤ entry above k) (movement_numbers net) → RunStays net bounds 0 → RunStays net above less
lower_than net bounds above less lower stays A permitted =
    AllOf-map (λ state. AllByRecursion (λ k. queue state k + 0 ≤ entry bounds k) (movement_numbers net)) (λ state. AllByRecursion (λ k. queue state k + less ≤ entry above k) (movement_numbers net))
    (λ state h. each_in _ (movement_numbers net) (λ k here.
    let a = at_in (λ k. entry bounds k + less ≤ entry above k) k (movement_numbers net) here lower in
    let b = at_in (λ k. queue state k + 0 ≤ entry bounds k) k (movement_numbers net) here h in
    omega arith)) (run net A) (stays A permitted)
