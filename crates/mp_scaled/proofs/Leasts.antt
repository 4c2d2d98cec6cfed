-- The least flow of a list of movements.
use Rattle.std.proofs.Common.{◌≡◌, ℕ, zero, suc, ◌+◌, ◌-◌, ◌<◌, ◌≤◌, min, List, [], ◌∷◌, length, get_or, arith, refl, ap, ⊎_elim}
use Rattle.std.proofs.lemmas.Bool.{cases_lt}
use Rattle.mp_model.specs.Network.{Network, Movement, no_movement, flow_of}
use Rattle.mp_model.specs.NetworkRules.{IsAcceptable}
use Rattle.mp_laws.proofs.Lists.{at_in}
use Rattle.mp_press.proofs.Known.{has_numbers, flow_few}
use Rattle.mp_model.specs.Network.{movement_numbers}
use Rattle.mp_trial.specs.Search.{least_flow}

least_low : (ms : List Movement) (i : ℕ) → i < length ms → least_flow ms ≤ (get_or ms i no_movement).flow
least_low [] i h = absurd (omega arith)
least_low (m ∷ []) zero h = omega arith
least_low (m ∷ []) (suc i) h = absurd (omega arith)
least_low (m ∷ n ∷ ms) zero h = omega arith
least_low (m ∷ n ∷ ms) (suc i) h = omega (arith, least_low (n ∷ ms) i (omega arith))

least_some : (ms : List Movement) → 1 ≤ length ms → (i : ℕ) × (i < length ms) × (least_flow ms ≡ (get_or ms i no_movement).flow)
least_some [] h = absurd (omega arith)
least_some (m ∷ []) h = (0, omega arith, refl)
least_some (m ∷ n ∷ ms) h =
    let s = least_some (n ∷ ms) (omega arith) in
    ⊎_elim (λ (lt : m.flow < least_flow (n ∷ ms)). (0, omega arith, omega arith)) (λ (le : least_flow (n ∷ ms) ≤ m.flow). (suc s.0, omega (arith, s.1), omega (arith, s.2))) (cases_lt m.flow (least_flow (n ∷ ms)))

-- the least so far
pub record Leasting (net : Network) (i least : ℕ) : Type 0 where
  pub low : (j : ℕ) → j < i → least ≤ flow_of net (j + 1)
  pub some : (j : ℕ) × (j < length net.movements) × (least ≡ flow_of net (j + 1))

pub leasting_start : (net : Network) (least : ℕ) → 1 ≤ length net.movements → least ≡ flow_of net 1 → Leasting net 0 least
leasting_start net least h is = record { low = λ j l. absurd (omega arith); some = (0, h, is) }

pub leasting_more : (net : Network) (i least flow next : ℕ) → Leasting net i least → i < length net.movements → flow ≡ flow_of net (i + 1) → next ≡ min least flow → Leasting net (i + 1) next
leasting_more net i least flow next s lt is e = record { low = low; some = some }
  where
    low : (j : ℕ) → j < i + 1 → next ≤ flow_of net (j + 1)
    low j l = ⊎_elim (λ (lt : j < i). omega (arith, s.low j lt)) (λ (le : i ≤ j). let same : j ≡ i = omega arith in omega (arith, ap (λ t. flow_of net (t + 1)) same)) (cases_lt j i)

    some : (j : ℕ) × (j < length net.movements) × (next ≡ flow_of net (j + 1))
    some = ⊎_elim (λ (l : least < flow). (s.some.0, s.some.1, omega (arith, s.some.2))) (λ (l : flow ≤ least). (i, lt, omega arith)) (cases_lt least flow)

pub leasting_end : (net : Network) (i least : ℕ) → Leasting net i least → length net.movements ≤ i → least ≡ least_flow net.movements
leasting_end net i least s le =
    let n = length net.movements in
    let t = least_some net.movements (omega (arith, s.some.1)) in
    let low : least_flow net.movements ≤ least =
    let back : (s.some.0 + 1) - 1 ≡ s.some.0 = omega arith in
    omega (arith, s.some.2, least_low net.movements s.some.0 s.some.1, ap (λ k. (get_or net.movements k no_movement).flow) back) in
    let high : least ≤ least_flow net.movements =
    let back : (t.0 + 1) - 1 ≡ t.0 = omega arith in
    omega (arith, t.2, s.low t.0 (omega (arith, t.1)), ap (λ k. (get_or net.movements k no_movement).flow) back) in
    omega arith

pub leasting_few : (net : Network) (i least : ℕ) → IsAcceptable net → Leasting net i least → (1 ≤ least) × (least ≤ 1000)
leasting_few net i least ok s =
    let k = s.some.0 + 1 in
    (omega (arith, s.some.2, at_in (λ k. 1 ≤ flow_of net k) k (movement_numbers net) (has_numbers (length net.movements) k (omega arith, omega (arith, s.some.1))) ok.network.flow), omega (arith, s.some.2, flow_few net ok.range k))

pub ruleset leasting = (leasting_start, leasting_more, leasting_end, leasting_few)
