-- How many vehicles come, and the even arrivals of a period, fed link by fed link.
use Rattle.std.proofs.Common.{◌≡◌, ◌≤◌, ◌<◌, ℕ, zero, suc, ◌+◌, ◌-◌, ◌*◌, ◌/◌, ◌^◌, List, [], ◌∷◌, ◌++◌, length, get_or, map, ap, sym, ◌∙◌, subst, arith, true, append-nil, append_assoc, length-append, mul-le-mul_left}
use Rattle.std.specs.List.{All, AllByRecursion}
use Rattle.std.proofs.lemmas.Nat.{le-div}
use Rattle.std.proofs.Math.Nat.{div-le_of_le-mul, div-mul-le_self, lt-mul-div-succ, div-le_self}
use Rattle.std.proofs.lemmas.List.{drop_more, drop_all}
use Rattle.std.proofs.lemmas.List.Elements.{All-push}
use Rattle.std.proofs.lemmas.List.Sums.{length-filter, count_by-le-length}
use Rattle.std.proofs.lemmas.List.FromFn.{length-range_with_len}
use Rattle.std.specs.Prelude.{drop}
use Rattle.mp_model.specs.Network.{Network, Link, no_link, link_at, fed, has, is_fed, link_numbers}
use Rattle.mp_model.specs.NetworkRules.{IsAcceptable}
use Rattle.mp_laws.proofs.Lists.{at_index, all_in, in_numbers, keep_all}
use Rattle.mp_overload.specs.Evens.{come_by, even_count, even_count_on, even_arrivals}

-- what has come is at most the rate for each period
pub come_few : (per rate t : ℕ) → rate ≤ 3600000 → t ≤ 2 ^ 32 → (rate * t ≤ 2 ^ 54) × (come_by per rate t ≤ 2 ^ 54)
come_few per rate t few early =
    let a : rate * t ≤ rate * 2 ^ 32 = mul-le-mul_left rate early in
    let most : rate * t ≤ 2 ^ 54 = omega arith in
    (most, omega (arith, div-le_self (rate * t) per))

product_after : (rate t u : ℕ) → t ≡ u + 1 → rate * t ≡ rate * u + rate
product_after rate t u e = ap (λ n. rate * n) e ∙ omega arith

next_product : (rate t : ℕ) → 1 ≤ t → rate * t ≡ rate * (t - 1) + rate
next_product rate t some = product_after rate t (t - 1) (omega arith)

-- more has come by the end of the next period, and no more than the rate and one more
pub come_more : (per rate t : ℕ) → 1 ≤ per → 1 ≤ t → come_by per rate (t - 1) ≤ come_by per rate t
come_more per rate t some first = le-div (rate * (t - 1) / per) (rate * t) per some (omega (arith, next_product rate t first, div-mul-le_self (rate * (t - 1)) per))

pub count_few : (per rate t : ℕ) → 1 ≤ per → 1 ≤ t → even_count per rate t ≤ rate + 1
count_few per rate t some first =
    let a : ℕ = rate * (t - 1) / per in
    let below : rate * (t - 1) < per * (a + 1) = lt-mul-div-succ (rate * (t - 1)) some in
    let wide : rate ≤ per * rate = mul-le-mul_left' rate some in
    let most : rate * t ≤ per * (a + 1 + rate) = omega (arith, next_product rate t first, below, wide) in
    omega (arith, div-le_of_le-mul per most)
  where
    mul-le-mul_left' : {p : ℕ} (r : ℕ) → 1 ≤ p → r ≤ p * r
    mul-le-mul_left' {p} r h = omega (arith, mul-le-mul_left r h)

-- no rate is above 3,600,000 vehicles in a rate length
pub rate_few : (net : Network) → IsAcceptable net → (l : ℕ) → (link_at net l).rate ≤ 3600000
rate_few net ok l =
    let most : (link_at net l).rate ≤ 1000 * net.per = at_index (λ (link : Link). link.rate ≤ 1000 * net.per) no_link net.links (l - 1) ok.range.rates (omega arith) in
    omega (arith, ok.range.per)

-- the first i fed links have their even counts
pub record FilledTo (net : Network) (t : ℕ) (items : List ℕ) (i : ℕ) : Type 0 where
  pub count : length items ≡ i
  pub digits : All (λ a. a < 10 ^ 9) items
  pub rest : items ++ map (even_count_on net t) (drop i (fed net)) ≡ even_arrivals net t

pub filled_start : (net : Network) (t : ℕ) (items : List ℕ) → items ≡ [] → FilledTo net t items 0
filled_start net t items none = record {
  count = ap length none;
  digits = subst (All (λ a. a < 10 ^ 9)) (sym none) (λ k d low. absurd (omega arith));
  rest = ap (λ (xs : List ℕ). xs ++ map (even_count_on net t) (fed net)) none;
}

pub filled_more : (net : Network) (t : ℕ) (items items' : List ℕ) (i i' l count : ℕ) → FilledTo net t items i → i < length (fed net) → l ≡ get_or (fed net) i 0 → i' ≡ i + 1
    → count ≡ even_count_on net t l → count < 10 ^ 9 → items' ≡ items ++ count ∷ [] → FilledTo net t items' i'
filled_more net t items items' i i' l count filled low is one counted few pushed =
    let rest_is : drop i (fed net) ≡ l ∷ drop (i + 1) (fed net) = drop_more (fed net) i 0 low ∙ ap (λ k. k ∷ drop (i + 1) (fed net)) (sym is) in
    let after : map (even_count_on net t) (drop i (fed net)) ≡ count ∷ map (even_count_on net t) (drop (i + 1) (fed net)) = ap (map (even_count_on net t)) rest_is ∙ ap (λ c. c ∷ map (even_count_on net t) (drop (i + 1) (fed net))) (sym counted) in
    record {
      count = ap length pushed ∙ length-append items (count ∷ []) ∙ ap (λ n. n + 1) filled.count ∙ sym one;
      digits = subst (All (λ a. a < 10 ^ 9)) (sym pushed) (All-push (λ a. a < 10 ^ 9) items count filled.digits few);
      rest = ap (λ k. items' ++ map (even_count_on net t) (drop k (fed net))) one ∙ ap (λ xs. xs ++ map (even_count_on net t) (drop (i + 1) (fed net))) pushed
          ∙ append_assoc items (count ∷ []) (map (even_count_on net t) (drop (i + 1) (fed net))) ∙ ap (λ xs. items ++ xs) (sym after) ∙ filled.rest;
    }

pub filled_end : (net : Network) (t : ℕ) (items : List ℕ) (i : ℕ) → FilledTo net t items i → length (fed net) ≤ i → items ≡ even_arrivals net t
filled_end net t items i filled past =
    sym (append-nil items) ∙ ap (λ ls. items ++ map (even_count_on net t) ls) (sym (drop_all i (fed net) past)) ∙ filled.rest

at_place : (P : ℕ → Type 0) (xs : List ℕ) → AllByRecursion P xs → (i : ℕ) → i < length xs → (d : ℕ) → P (get_or xs i d)
at_place P [] h i low d = absurd (omega arith)
at_place P (x ∷ xs) h zero low d = h.0
at_place P (x ∷ xs) h (suc i) low d = at_place P xs h.1 i (omega arith) d

-- each fed link is a link
pub fed_at : (net : Network) (fs : List ℕ) (i : ℕ) → fs ≡ fed net → i < length fs → (1 ≤ get_or fs i 0) × (get_or fs i 0 ≤ length net.links)
fed_at net fs i are low =
    let all = keep_all (λ k. has (link_numbers net) k ≡ true) (λ k. is_fed (link_at net k)) (link_numbers net) (all_in (link_numbers net)) in
    let there : has (link_numbers net) (get_or fs i 0) ≡ true = at_place (λ k. has (link_numbers net) k ≡ true) fs (subst (λ (xs : List ℕ). AllByRecursion (λ k. has (link_numbers net) k ≡ true) xs) (sym are) all) i low 0 in
    let within = in_numbers (length net.links) (get_or fs i 0) there in
    (within.0, omega (arith, within.1))

-- no more links are fed than there are
pub fed_few : (net : Network) → length (fed net) ≤ length net.links
fed_few net =
    let fed_links = λ (l : ℕ). is_fed (link_at net l) in
    omega (arith, length-filter fed_links (link_numbers net), count_by-le-length fed_links (link_numbers net), length-range_with_len 1 (length net.links))
