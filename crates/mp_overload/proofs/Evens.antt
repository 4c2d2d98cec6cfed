-- Even arrivals, their sums, and why they keep to the buckets.
use Rattle.std.proofs.Common.{◌≡◌, ◌==◌, ℕ, zero, suc, ◌+◌, ◌-◌, ◌*◌, ◌/◌, ◌%◌, ◌≤◌, ◌<◌, Bool, true, false, cond, ◌&&◌, ◌||◌, not, List, [], ◌∷◌, ◌++◌, length, map, sum, find, Some, None, All, ◌^◌, arith, refl, sym, ◌∙◌, ap, subst, ap₂, zero-le, eqb-true, eq-eqb, nat_lt, add-zero}
use Rattle.std.proofs.Math.Nat.{div-add-mod, mod-lt, mod-eq_of_lt, div-le_self, mul-div_left, le_of_mul-le-mul_left}
use Rattle.std.proofs.lemmas.Nat.{le-div, mul-mod_first}
use Rattle.std.proofs.lemmas.Bool.{true≢false, or_left, or_right}
use Rattle.std.proofs.lemmas.Option.{same_Some}
use Rattle.std.proofs.lemmas.List.Sums.{sum_by-cons}
use Rattle.std.proofs.lemmas.List.Elements.{All-from_recursion}
use Rattle.std.proofs.lemmas.List.{length-map}
use Rattle.std.proofs.lemmas.List.FromFn.{map-range_with_len_more, length-map-range_with_len}
use Rattle.std.specs.List.{AllByRecursion, range_with_len}
use Rattle.mp_model.specs.Arrivals.{count_in, arrivals_of, counts_of, HasCounts, KeepsTo, StaysWithin, next_level, IsPermitted}
use Rattle.mp_model.specs.Network.{Network, Link, no_link, link_at, link_numbers, numbers_to, has, fed, is_fed}
use Rattle.mp_model.specs.NetworkRules.{IsNetwork, IsInRange}
use Rattle.mp_laws.proofs.Lists.{AllOf-map, at_in, at_index, each_in, find_none, has_filter, filter_sub}
use Rattle.mp_laws.proofs.Windows.{keeps_to, stays_within}
use Rattle.mp_overload.specs.Evens.{come_by, even_count, even_count_on, even_arrivals, even_periods, is_uneven, uneven_link}

-- what has come by a period, and what its rounding leaves over
pub record Come (per rate t : ℕ) : Type 0 where
  pub whole : per * come_by per rate t + rate * t % per ≡ rate * t

pub come : (per rate t : ℕ) → Come per rate t
come per rate t = record { whole = div-add-mod (rate * t) per }

pub comes_later : (per rate t : ℕ) → 1 ≤ per → come_by per rate t ≤ come_by per rate (t + 1)
comes_later per rate t h = le-div (come_by per rate t) (rate * (t + 1)) per h (omega (arith, (come per rate t).whole))

-- what comes in a period adds to what has come
pub comes : (per rate t : ℕ) → 1 ≤ per → come_by per rate t + even_count per rate (t + 1) ≡ come_by per rate (t + 1)
comes per rate t h = let e : (t + 1) - 1 ≡ t = omega arith in subst (λ s. come_by per rate t + (come_by per rate (t + 1) - come_by per rate s) ≡ come_by per rate (t + 1)) (sym e) (omega (arith, comes_later per rate t h))

-- the level with what rounding leaves over never exceeds a bound that what rounding leaves over never exceeds
stays : (per burst rate M : ℕ) → 1 ≤ per → ((t : ℕ) → rate * t % per ≤ M) → M ≤ per * burst → (m t level : ℕ) → level + rate * t % per ≤ M →
    StaysWithin per burst rate level (map (even_count per rate) (range_with_len (t + 1) m))
stays per burst rate M h left within zero t level low = tt
stays per burst rate M h left within (suc m) t level low =
    let next = (level + per * even_count per rate (t + 1)) - rate in
    let joins = ap (λ n. per * n) (comes per rate t h) in
    let low' : next + rate * (t + 1) % per ≤ M = omega (arith, joins, (come per rate t).whole, (come per rate (t + 1)).whole, left (t + 1)) in
    (omega (arith, low', within), stays per burst rate M h left within m (t + 1) next low')

-- a multiple of the rate length leaves nothing over
none_left : (per rate t : ℕ) → 1 ≤ per → rate % per ≡ 0 → rate * t % per ≡ 0
none_left per rate t h e = let none : rate % per * t ≡ 0 = omega (arith, ap (λ n. n * t) e) in sym (mul-mod_first rate t per) ∙ ap (λ n. n % per) none ∙ mod-eq_of_lt h

-- the even counts of a link that is not uneven keep to its bucket
keeps : (per burst rate : ℕ) → 1 ≤ per → ((burst == 0) && not (rate % per == 0)) ≡ false → (T : ℕ) → KeepsTo per burst rate (map (even_count per rate) (numbers_to T))
keeps per zero rate h even T = go (rate % per == 0) refl even
  where
    go : (b : Bool) → (rate % per == 0) ≡ b → not b ≡ false → KeepsTo per 0 rate (map (even_count per rate) (numbers_to T))
    go true e n =
        let left : (t : ℕ) → rate * t % per ≤ 0 = λ t. omega (arith, none_left per rate t h (eqb-true (rate % per) 0 e)) in
        keeps_to per 0 rate _ (stays per 0 rate 0 h left zero-le T 0 0 (omega (arith, left 0)))
    go false e n = absurd (true≢false n)
keeps per (suc burst) rate h even T =
    let left : (t : ℕ) → rate * t % per ≤ per - 1 = λ t. omega (arith, mod-lt (rate * t) h) in
    keeps_to per (suc burst) rate _ (stays per (suc burst) rate (per - 1) h left (omega arith) T 0 0 (omega (arith, left 0)))

-- what a list of one number per link says of a link, where no other link has a number
count_each : (g : ℕ → ℕ) (fs : List ℕ) (l : ℕ) → (has fs l ≡ false → g l ≡ 0) → count_in fs (map g fs) l ≡ g l
count_each g [] l h = sym (h refl)
count_each g (f ∷ fs) l h = go (count_each g fs l) (f == l) refl
  where
    go : ((has fs l ≡ false → g l ≡ 0) → count_in fs (map g fs) l ≡ g l) → (b : Bool) → (f == l) ≡ b → cond b (g f) (count_in fs (map g fs) l) ≡ g l
    go more true e = ap g (eqb-true f l e)
    go more false e = more (λ n. h (ap (λ b. b || has fs l) e ∙ n))

-- no vehicle comes where the rate is 0
none_comes : (per rate t : ℕ) → rate ≡ 0 → even_count per rate t ≡ 0
none_comes per rate t e = let none : come_by per rate t ≤ 0 = omega (arith, div-le_self (rate * t) per, ap (λ n. n * t) e) in omega (arith, none)

no_rate : (burst rate : ℕ) → (nat_lt 0 burst || nat_lt 0 rate) ≡ false → rate ≡ 0
no_rate burst rate e = grind arith

-- the even arrivals of a link of the network are its even counts, fed or not
pub even_on : (net : Network) (t l : ℕ) → has (link_numbers net) l ≡ true → arrivals_of net (even_arrivals net t) l ≡ even_count_on net t l
even_on net t l here = count_each (even_count_on net t) (fed net) l (λ n. none_comes net.per (link_at net l).rate t (go n (is_fed (link_at net l)) refl))
  where
    go : has (fed net) l ≡ false → (b : Bool) → is_fed (link_at net l) ≡ b → (link_at net l).rate ≡ 0
    go n true e = absurd (true≢false (sym (has_filter (λ l. is_fed (link_at net l)) l (link_numbers net) here e) ∙ n))
    go n false e = no_rate (link_at net l).burst (link_at net l).rate e

pub even_has : (net : Network) (t : ℕ) → HasCounts net (even_arrivals net t)
even_has net t = length-map (fed net) (even_count_on net t)

-- one period more
pub even_more : (net : Network) (T : ℕ) → even_periods net (T + 1) ≡ even_periods net T ++ even_arrivals net (T + 1) ∷ []
even_more net T = map-range_with_len_more (even_arrivals net) 1 T (T + 1) (omega arith)

counts_same : (net : Network) (l : ℕ) → has (link_numbers net) l ≡ true → (ts : List ℕ) → counts_of net (map (even_arrivals net) ts) l ≡ map (even_count net.per (link_at net l).rate) ts
counts_same net l here [] = refl
counts_same net l here (t ∷ ts) = ap₂ (λ x xs. x ∷ xs) (even_on net t l here) (counts_same net l here ts)

all_have : (net : Network) (ts : List ℕ) → AllByRecursion (HasCounts net) (map (even_arrivals net) ts)
all_have net [] = tt
all_have net (t ∷ ts) = (even_has net t, all_have net ts)

-- even arrivals are permitted
pub even_permitted : (net : Network) → IsNetwork net → uneven_link net ≡ None → (T : ℕ) → IsPermitted net (even_periods net T)
even_permitted net ok none T = record {
  counts = all_have net (numbers_to T);
  windows = AllOf-map (λ l. (is_uneven net.per (link_at net l) ≡ false) × (has (link_numbers net) l ≡ true)) (λ l. KeepsTo net.per (link_at net l).burst (link_at net l).rate (counts_of net (even_periods net T) l))
      (λ l e. subst (KeepsTo net.per (link_at net l).burst (link_at net l).rate) (sym (counts_same net l e.1 (numbers_to T))) (keeps net.per (link_at net l).burst (link_at net l).rate ok.per e.0 T))
      (fed net) (each_in _ (fed net) (λ l h. (at_in (λ l. is_uneven net.per (link_at net l) ≡ false) l (fed net) h (find_none (λ l. is_uneven net.per (link_at net l)) (fed net) none), filter_sub (λ l. is_fed (link_at net l)) (link_numbers net) l h)));
}

-- an even count is at most the rate of a period, rounded up
pub count_few : (per rate most t : ℕ) → 1 ≤ per → rate ≤ most * per → even_count per rate (t + 1) ≤ most + 1
count_few per rate most t h few =
    let joins = ap (λ n. per * n) (comes per rate t h) in
    let left = mod-lt (rate * t) h in
    le_of_mul-le-mul_left {k = per} (omega (arith, joins, (come per rate t).whole, (come per rate (t + 1)).whole, few, left)) h

few_on : (net : Network) (t : ℕ) → 1 ≤ net.per → ((l : ℕ) → (link_at net l).rate ≤ 1000 * net.per) → (ls : List ℕ) → AllByRecursion (λ a. a < 10 ^ 9) (map (even_count_on net (t + 1)) ls)
few_on net t h few [] = tt
few_on net t h few (l ∷ ls) = (let less = count_few net.per (link_at net l).rate 1000 t h (few l) in omega (arith, less), few_on net t h few ls)

-- even arrivals have few digits
pub even_few : (net : Network) → IsNetwork net → IsInRange net → (t : ℕ) → All (λ a. a < 10 ^ 9) (even_arrivals net (t + 1))
even_few net ok range t = All-from_recursion (λ a. a < 10 ^ 9) (even_arrivals net (t + 1))
    (few_on net t ok.per (λ l. at_index (λ (link : Link). link.rate ≤ 1000 * net.per) no_link net.links (l - 1) range.rates zero-le) (fed net))

-- all even counts of t periods and m more
counts_sum : (per rate : ℕ) → 1 ≤ per → (m t : ℕ) → come_by per rate t + sum (map (even_count per rate) (range_with_len (t + 1) m)) ≡ come_by per rate (t + m)
counts_sum per rate h zero t = omega (arith, ap (λ n. come_by per rate n) (sym (add-zero t)))
counts_sum per rate h (suc m) t =
    let e : (t + 1) + m ≡ t + suc m = omega arith in
    omega (arith, sum_by-cons (λ x. x) (even_count per rate (t + 1)) (map (even_count per rate) (range_with_len ((t + 1) + 1) m)), comes per rate t h, counts_sum per rate h m (t + 1), ap (λ n. come_by per rate n) e)

-- where the burst is 0 no count is above the rate of a period, rounded down
none_above : (per rate : ℕ) → 1 ≤ per → (level : ℕ) (counts : List ℕ) → StaysWithin per 0 rate level counts → sum counts ≤ length counts * (rate / per)
none_above per rate h level [] s = zero-le
none_above per rate h level (count ∷ counts) s =
    let low : count * per ≤ rate = omega (arith, s.0) in
    omega (arith, sum_by-cons (λ x. x) count counts, le-div count rate per h low, none_above per rate h (next_level per rate level count) counts s.1)

-- but more comes in a rate length where the rate is uneven
pub uneven_exceeds : (per rate : ℕ) → 1 ≤ per → KeepsTo per 0 rate (map (even_count per rate) (numbers_to per)) → rate % per ≡ 0
uneven_exceeds per rate h kept =
    let most = none_above per rate h 0 _ (stays_within per 0 rate _ kept) in
    let size : length (map (even_count per rate) (numbers_to per)) ≡ per = length-map-range_with_len (even_count per rate) 1 per in
    let most' = ap (λ n. n * (rate / per)) size in
    let all = counts_sum per rate h per 0 in
    let none : come_by per rate 0 ≤ 0 = omega (arith, div-le_self (rate * 0) per) in
    let here : 0 + per ≡ per = omega arith in
    let whole : come_by per rate (0 + per) ≡ rate = ap (λ n. come_by per rate n) here ∙ mul-div_left rate h in
    omega (arith, most, most', all, none, whole, div-add-mod rate per)

-- the link that is found is among those that were searched, and passes the test
found_some : (test : ℕ → Bool) (xs : List ℕ) (x : ℕ) → find test xs ≡ Some x → (has xs x ≡ true) × (test x ≡ true)
found_some test (y ∷ ys) x e = go (found_some test ys x) (test y) refl e
  where
    go : (find test ys ≡ Some x → (has ys x ≡ true) × (test x ≡ true)) → (b : Bool) → test y ≡ b → cond b (Some y) (find test ys) ≡ Some x → (has (y ∷ ys) x ≡ true) × (test x ≡ true)
    go more true t e = let same : y ≡ x = same_Some _ _ e in (or_left (y == x) (has ys x) (eq-eqb y x same), subst (λ z. test z ≡ true) same t)
    go more false t e = let m = more e in (or_right (y == x) (has ys x) m.0, m.1)
found_some test [] x e = cc

uneven_parts : (burst rest : ℕ) → ((burst == 0) && not (rest == 0)) ≡ true → (burst ≡ 0) × (rest ≡ 0 → ⊥)
uneven_parts burst rest e = (grind arith, λ z. grind arith)

-- the even arrivals of a rate length are not permitted where a fed link is uneven
pub uneven_refused : (net : Network) → IsNetwork net → (l : ℕ) → uneven_link net ≡ Some l → ¬ IsPermitted net (even_periods net net.per)
uneven_refused net ok l found permitted =
    let there = found_some (λ l. is_uneven net.per (link_at net l)) (fed net) l found in
    let here : has (link_numbers net) l ≡ true = filter_sub (λ l. is_fed (link_at net l)) (link_numbers net) l there.0 in
    let parts = uneven_parts (link_at net l).burst ((link_at net l).rate % net.per) there.1 in
    let keeps = at_in (λ l. KeepsTo net.per (link_at net l).burst (link_at net l).rate (counts_of net (even_periods net net.per) l)) l (fed net) there.0 permitted.windows in
    let keeps' = subst (λ burst. KeepsTo net.per burst (link_at net l).rate (map (even_count net.per (link_at net l).rate) (numbers_to net.per))) parts.0 (subst (KeepsTo net.per (link_at net l).burst (link_at net l).rate) (counts_same net l here (numbers_to net.per)) keeps) in
    parts.1 (uneven_exceeds net.per (link_at net l).rate ok.per keeps')
