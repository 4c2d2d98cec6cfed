-- What a movement wants, and which movements a junction knows.
use Rattle.std.proofs.Common.{◌≡◌, ◌≤◌, ◌<◌, ℕ, ◌-◌, ◌*◌, ◌^◌, max, true, false, cond, List, length, get_or, arith, sym, ◌∙◌, ap, ap₂, subst, mul-le-mul}
use Rattle.std.specs.List.{AllByRecursion}
use Rattle.mp_served.proofs.Places.{at_place}
use Rattle.mp_laws.proofs.Lists.{at_in}
use Rattle.mp_model.specs.Guard.{is_always_green}
use Rattle.mp_model.specs.Network.{Network, movement_numbers, junction_at, junction_of_movement, flow_of, own, stage_at, stands_in, entry}
use Rattle.mp_model.specs.NetworkRules.{IsNetwork, IsInRange}
use Rattle.mp_press.proofs.Known.{flow_few, has_numbers, kept_known, stage_known}
use Rattle.mp_press.specs.Written.{IsAmong}
use Rattle.mp_trial.proofs.Rounding.{rounding}
use Rattle.mp_trial.specs.Sweeps.{rounded_up}
use Rattle.mp_finder.specs.Greens.{wanted}

-- ---- the movements of a stage and of a junction
pub known_in_stage : (net : Network) → IsNetwork net → (j s : ℕ) (items : List ℕ) (i : ℕ) → items ≡ stage_at (junction_at net j) s → i < length items → IsAmong (length net.movements) (get_or items i 0)
known_in_stage net ok j s items i is lt = at_place (IsAmong (length net.movements)) 0 items i lt (subst (AllByRecursion (IsAmong (length net.movements))) (sym is) (stage_known net ok (j - 1) s))

pub known_in_own : (net : Network) (j : ℕ) (items : List ℕ) (i : ℕ) → items ≡ own net (junction_at net j) → i < length items → IsAmong (length net.movements) (get_or items i 0)
known_in_own net j items i is lt = at_place (IsAmong (length net.movements)) 0 items i lt (subst (AllByRecursion (IsAmong (length net.movements))) (sym is) (kept_known (stands_in (junction_at net j)) (length net.movements)))

-- ---- what a movement wants
pub flow_least : (net : Network) → IsNetwork net → (k : ℕ) → 1 ≤ k → k ≤ length net.movements → 1 ≤ flow_of net k
flow_least net ok k low high = at_in (λ k. 1 ≤ flow_of net k) k (movement_numbers net) (has_numbers (length net.movements) k (low, high)) ok.flow

pub unit_bounds : (net : Network) → IsNetwork net → IsInRange net → (k D : ℕ) → 1 ≤ k → k ≤ length net.movements → 1 ≤ D → D ≤ 10 ^ 9 → (1 ≤ D * flow_of net k) × (D * flow_of net k ≤ 10 ^ 12)
unit_bounds net ok range k D low high some few =
    let least : 1 * 1 ≤ D * flow_of net k = mul-le-mul some (flow_least net ok k low high) in
    let most : D * flow_of net k ≤ 10 ^ 9 * 1000 = mul-le-mul few (flow_few net range k) in
    (omega (arith, least), omega (arith, most))

pub want_none : (net : Network) (C D : ℕ) (h : List ℕ) (k j : ℕ) → j ≡ junction_of_movement net k → is_always_green (junction_at net j) k ≡ true → 0 ≡ wanted net C D h k
unfolding wanted
want_none net C D h k j is always =
    sym (ap (λ b. cond b 0 (max 1 (rounded_up (C * entry h k) (D * flow_of net k)))) (ap (λ j. is_always_green (junction_at net j) k) (sym is) ∙ always))

pub want_some : (net : Network) (C D : ℕ) (h : List ℕ) (k j r over under v : ℕ) → j ≡ junction_of_movement net k → is_always_green (junction_at net j) k ≡ false → r ≡ rounded_up over under → over ≡ C * entry h k → under ≡ D * flow_of net k → v ≡ max r 1 → v ≡ wanted net C D h k
unfolding wanted
want_some net C D h k j r over under v is not_always er eo eu ev =
    let here : rounded_up over under ≡ rounded_up (C * entry h k) (D * flow_of net k) = ap₂ rounded_up eo eu in
    let most : v ≡ max 1 (rounded_up (C * entry h k) (D * flow_of net k)) = omega (arith, er, here, ev) in
    most ∙ sym (ap (λ b. cond b 0 (max 1 (rounded_up (C * entry h k) (D * flow_of net k)))) (ap (λ j. is_always_green (junction_at net j) k) (sym is) ∙ not_always))

pub want_few : (r over under v : ℕ) → 1 ≤ under → r ≡ rounded_up over under → over ≤ 10 ^ 20 → v ≡ max r 1 → v ≤ 10 ^ 20
want_few r over under v some er few ev =
    let p : over * 1 ≤ under * over = omega (arith, mul-le-mul some (le over)) in
    let q = (rounding over under over some).1 (omega (arith, p)) in
    omega (arith, q, er, few, ev)
  where
    le : (n : ℕ) → n ≤ n
    le n = omega arith
