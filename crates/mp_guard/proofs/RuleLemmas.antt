-- The sums that the rules of a guard compare.
use Rattle.std.proofs.Common.{◌≡◌, ℕ, ◌+◌, ◌-◌, ◌*◌, ◌^◌, ◌<◌, ◌≤◌, List, length, drop, get_or, sum_by, arith, ◌∙◌, ap, mul-le-mul_left}
use Rattle.std.specs.List.{All, AllByRecursion}
use Rattle.std.proofs.lemmas.List.{drop_more, drop_all}
use Rattle.std.proofs.lemmas.List.Elements.{All-from_recursion}
use Rattle.std.proofs.lemmas.List.Sums.{sum_by-cons, length-filter, count_by-le-length}
use Rattle.std.proofs.lemmas.List.FromFn.{length-range_with_len}
use Rattle.mp_cert.proofs.PlaceLemmas.{in_list}
use Rattle.mp_laws.proofs.Lists.{at_in, at_index, AllOf-map}
use Rattle.mp_model.specs.Guard.{Guard, HasGuardLengths, greens_at, guarded_rate}
use Rattle.mp_model.specs.Network.{Network, Junction, Movement, junction_at, junction_numbers, movement_numbers, entry, flow_of, into_link, goes_to, to_of, no_junction, no_movement}
use Rattle.mp_model.specs.NetworkRules.{IsAcceptable}
use Rattle.mp_guard.specs.Checking.{HasNumbers, HasRates, HasGreens}

pub greens_count : (net : Network) (guard : Guard) → HasGuardLengths net guard → (j : ℕ) → 1 ≤ j → j ≤ length net.junctions → length (greens_at guard j) ≡ length (junction_at net j).stages
greens_count net guard lengths j low high = at_in (λ j. length (greens_at guard j) ≡ length (junction_at net j).stages) j (junction_numbers net) (in_list (length net.junctions) j low high) lengths.greens

pub green_small : (net : Network) (guard : Guard) → HasGreens net guard → (j s : ℕ) → 1 ≤ j → j ≤ length net.junctions → entry (greens_at guard j) s ≤ guard.cycle
green_small net guard has j s low high =
    at_index (λ n. n ≤ guard.cycle) 0 (greens_at guard j) (s - 1) (at_in (λ j. AllByRecursion (λ n. n ≤ guard.cycle) (greens_at guard j)) j (junction_numbers net) (in_list (length net.junctions) j low high) has) (omega arith)

pub greens_small : (net : Network) (guard : Guard) → HasNumbers guard → HasGreens net guard → (j : ℕ) → 1 ≤ j → j ≤ length net.junctions → All (λ n. n ≤ 10 ^ 20) (greens_at guard j)
greens_small net guard numbers has j low high =
    All-from_recursion (λ n. n ≤ 10 ^ 20) (greens_at guard j)
    (AllOf-map (λ n. n ≤ guard.cycle) (λ n. n ≤ 10 ^ 20) (λ n le. omega (arith, le, numbers.cycle.1)) (greens_at guard j) (at_in (λ j. AllByRecursion (λ n. n ≤ guard.cycle) (greens_at guard j)) j (junction_numbers net) (in_list (length net.junctions) j low high) has))

pub stages_few : (net : Network) → IsAcceptable net → (j : ℕ) → length (junction_at net j).stages ≤ 16
stages_few net ok j = at_index (λ (junction : Junction). length junction.stages ≤ 16) no_junction net.junctions (j - 1) ok.range.stages (omega arith)

pub into_few : (net : Network) → IsAcceptable net → (l : ℕ) → length (into_link net l) ≤ 512
into_few net ok l =
    omega (arith, length-filter (λ k. goes_to (to_of net k) l) (movement_numbers net), count_by-le-length (λ k. goes_to (to_of net k) l) (movement_numbers net), length-range_with_len 1 (length net.movements), ok.range.movements.1)

pub rate_small : (net : Network) → IsAcceptable net → (guard : Guard) → HasNumbers guard → HasRates net guard → (k : ℕ) → 1 ≤ k → k ≤ length net.movements → guarded_rate guard k ≤ 1000000000000
rate_small net ok guard numbers rates k low high =
    let rate : guarded_rate guard k ≤ flow_of net k * guard.denominator = at_in (λ k. guarded_rate guard k ≤ flow_of net k * guard.denominator) k (movement_numbers net) (in_list (length net.movements) k low high) rates in
    let flow : flow_of net k ≤ 1000 = at_index (λ (m : Movement). m.flow ≤ 1000) no_movement net.movements (k - 1) ok.range.flows (omega arith) in
    let most : guard.denominator * flow_of net k ≤ guard.denominator * 1000 = mul-le-mul_left guard.denominator flow in
    let d = numbers.denominator.1 in
    omega arith

add_zero : (n : ℕ) → 0 + n ≡ n
add_zero n = omega arith

-- ---- products that fit
pub mul-le : (a b m n : ℕ) → a ≤ m → b ≤ n → a * b ≤ m * n
mul-le a b m n x y = let p : a * b ≤ a * n = mul-le-mul_left a y in let q : n * a ≤ n * m = mul-le-mul_left n x in omega arith

-- ---- a sum over a list, what is there and what is left
pub record Adding (f : ℕ → ℕ) (most : ℕ) (xs : List ℕ) (i now : ℕ) : Type 0 where
  pub rest : now + sum_by f (drop i xs) ≡ sum_by f xs
  pub few : now ≤ most * i

pub adding_start : (f : ℕ → ℕ) (most : ℕ) (xs : List ℕ) → Adding f most xs 0 0
adding_start f most xs = record { rest = add_zero (sum_by f xs); few = omega arith }

pub adding_more : (f : ℕ → ℕ) (most : ℕ) (xs : List ℕ) (i now x : ℕ) → Adding f most xs i now → i < length xs → x ≡ f (get_or xs i 0) → x ≤ most → Adding f most xs (i + 1) (now + x)
adding_more f most xs i now x a within is few = record {
  rest = (let e : sum_by f (drop i xs) ≡ f (get_or xs i 0) + sum_by f (drop (i + 1) xs) = ap (sum_by f) (drop_more xs i 0 within) ∙ sum_by-cons f (get_or xs i 0) (drop (i + 1) xs) in omega (arith, a.rest, e, is));
  few = omega (arith, a.few, few);
}

pub adding_end : (f : ℕ → ℕ) (most : ℕ) (xs : List ℕ) (i now : ℕ) → Adding f most xs i now → length xs ≤ i → now ≡ sum_by f xs
adding_end f most xs i now a past = let e : sum_by f (drop i xs) ≡ 0 = ap (sum_by f) (drop_all i xs past) in omega (arith, a.rest, e)

pub ruleset addings = (adding_start, adding_more, adding_end)
