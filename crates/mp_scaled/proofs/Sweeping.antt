-- The loops of a sweep.
use Rattle.std.proofs.Common.{◌≡◌, ◌==◌, ◌≤◌, ◌<◌, ℕ, zero, suc, ◌+◌, ◌-◌, ◌*◌, ◌^◌, ◌||◌, ◌&&◌, Bool, true, false, List, [], ◌∷◌, length, get_or, set, take, map, nat_lt, Some, None, arith, refl, sym, ◌∙◌, ap, ap₂, subst, cond, mul-le-mul, replicate, ◌≢◌, ⊎_elim, get_or-set_other, get_or-set_same, eqb-true}
use Rattle.std.specs.List.{AllByRecursion, All, list_any, list_all, find, range_with_len}
use Rattle.std.proofs.lemmas.Bool.{false≢true, ltb-false, le-ltb, cases_lt}
use Rattle.std.proofs.lemmas.List.{take_all}
use Rattle.std.proofs.lemmas.List.Elements.{All-from_recursion, recursion_from_All}
use Rattle.std.proofs.lemmas.List.Sums.{AllPass-from_list_all}
use Rattle.std.proofs.lemmas.List.Folds.{list_any_more, list_all_more, list_any_at}
use Rattle.std.proofs.lemmas.List.FromFn.{length-range_with_len, get_or-range_with_len}
use Rattle.mp_laws.proofs.Lists.{all_places, at_in, at_index, each_in, numbered}
use Rattle.mp_press.proofs.Known.{has_numbers, from_known, flow_few}
use Rattle.mp_press.proofs.Writes.{numbers_by_all}
use Rattle.mp_model.specs.Network.{Network, movement_numbers, link_numbers, link_at, no_link, from_of, share_of, flow_of, entry, has}
use Rattle.mp_model.specs.NetworkRules.{IsNetwork, IsInRange}
use Rattle.mp_trial.specs.Sweeps.{rounded_up, brought_to, swept_rate, swept, rates_after, is_above, is_stable, is_last_after, sweeps_before_last, sweep_limit}
use Rattle.mp_scaled.specs.declared.sweep.Swept.TheVariants as Swept
use Rattle.mp_scaled.specs.Sweeping.{carried, EndsSweep, IfNotAbove, EndsSweeps}

-- the rate of a link
pub rate_few : (net : Network) → IsInRange net → (l : ℕ) → (link_at net l).rate ≤ 1000 * net.per
rate_few net range l = at_index (λ link. link.rate ≤ 1000 * net.per) no_link net.links (l - 1) range.rates (omega arith)

any_false_at : (p : ℕ → Bool) (xs : List ℕ) (i : ℕ) → list_any p xs ≡ false → i < length xs → p (get_or xs i 0) ≡ false
any_false_at p xs i none h = go (p (get_or xs i 0)) refl
  where
    go : (b : Bool) → p (get_or xs i 0) ≡ b → p (get_or xs i 0) ≡ false
    go true e = absurd (false≢true (sym none ∙ list_any_at p xs i 0 h e))
    go false e = e

-- rates of which none is above its flow
pub kept_few : (net : Network) → IsInRange net → (D : ℕ) (h : List ℕ) → D ≤ 10 ^ 9 → length h ≡ length net.movements → is_above net D h ≡ false → All (λ rate. rate ≤ 10 ^ 12) h
kept_few net range D h few size none = All-from_recursion (λ rate. rate ≤ 10 ^ 12) h (all_places (λ rate. rate ≤ 10 ^ 12) 0 h at)
  where
    at : (i : ℕ) → i < length h → get_or h i 0 ≤ 10 ^ 12
    at i l =
        let m = length net.movements in
        let n = length-range_with_len 1 m in
        let here : get_or (movement_numbers net) i 0 ≡ i + 1 = get_or-range_with_len 1 m i 0 (omega arith) ∙ omega arith in
        let back : (i + 1) - 1 ≡ i = omega arith in
        let below : nat_lt (flow_of net (i + 1) * D) (entry h (i + 1)) ≡ false =
        ap (λ k. nat_lt (flow_of net k * D) (entry h k)) (sym here) ∙ any_false_at (λ k. nat_lt (flow_of net k * D) (entry h k)) (movement_numbers net) i none (omega (arith, n)) in
        let le : entry h (i + 1) ≤ flow_of net (i + 1) * D = ltb-false (flow_of net (i + 1) * D) (entry h (i + 1)) below in
        let most : flow_of net (i + 1) * D ≤ 1000 * 10 ^ 9 = mul-le-mul (flow_few net range (i + 1)) few in
        let same : entry h (i + 1) ≡ get_or h i 0 = ap (λ t. get_or h t 0) back in
        omega (arith, le, most, same)

-- ---- what comes to the links
pub record Bringing (net : Network) (D : ℕ) (h : List ℕ) (i : ℕ) (now : List ℕ) : Type 0 where
  pub done : (j : ℕ) → j < i → get_or now j 0 ≡ brought_to net D h (j + 1)
  pub few : (j : ℕ) → j < i → get_or now j 0 ≤ 2 ^ 61

pub bringing_start : (net : Network) (D : ℕ) (h now : List ℕ) → Bringing net D h 0 now
bringing_start net D h now = record { done = λ j l. absurd (omega arith); few = λ j l. absurd (omega arith) }

below_set : (P : ℕ → ℕ → Type 0) (now : List ℕ) (i at v : ℕ) → at ≡ i → i < length now → ((j : ℕ) → j < i → P j (get_or now j 0)) → P i v → (j : ℕ) → j < i + 1 → P j (get_or (set now at v) j 0)
below_set P now i at v e size before here j l = ⊎_elim below same (cases_lt j i)
  where
    below : j < i → P j (get_or (set now at v) j 0)
    below lt = let ne : j ≢ at = omega arith in subst (P j) (sym (get_or-set_other now at j v 0 ne)) (before j lt)

    same : i ≤ j → P j (get_or (set now at v) j 0)
    same ge =
        let e1 : j ≡ i = omega arith in
        let e2 : at ≡ j = omega arith in
        let lt : j < length now = omega arith in
        subst (P j) (sym (ap (λ t. get_or (set now t v) j 0) e2 ∙ get_or-set_same now j v 0 lt)) (subst (λ t. P t v) (sym e1) here)

pub bringing_more : (net : Network) (D : ℕ) (h now : List ℕ) (i at v : ℕ) → Bringing net D h i now → i < length now → at ≡ i → v ≡ brought_to net D h (i + 1) → v ≤ 2 ^ 61 → Bringing net D h (i + 1) (set now at v)
bringing_more net D h now i at v s size e is few = record {
  done = below_set (λ j b. b ≡ brought_to net D h (j + 1)) now i at v e size s.done is;
  few = below_set (λ j b. b ≤ 2 ^ 61) now i at v e size s.few few;
}

pub bringing_end : (net : Network) (D : ℕ) (h now : List ℕ) (i : ℕ) → Bringing net D h i now → length now ≡ length net.links → length net.links ≤ i → now ≡ map (brought_to net D h) (link_numbers net)
bringing_end net D h now i s size le =
    numbers_by_all (brought_to net D h) now (length net.links) size
    (λ l a b. let back : (l - 1) + 1 ≡ l = omega arith in s.done (l - 1) (omega arith) ∙ ap (brought_to net D h) back)

pub bringing_few : (net : Network) (D : ℕ) (h now : List ℕ) (i : ℕ) → Bringing net D h i now → length now ≡ length net.links → length net.links ≤ i → All (λ b. b ≤ 2 ^ 61) now
bringing_few net D h now i s size le = All-from_recursion (λ b. b ≤ 2 ^ 61) now (all_places (λ b. b ≤ 2 ^ 61) 0 now (λ j l. s.few j (omega arith)))

pub ruleset bringing = (bringing_start, bringing_more, bringing_end, bringing_few)

-- ---- the rates after a sweep
pub record Settling (net : Network) (D e : ℕ) (h : List ℕ) (i : ℕ) (stable : Bool) (now : List ℕ) : Type 0 where
  pub done : (j : ℕ) → j < i → get_or now j 0 ≡ swept_rate net D e h (j + 1)
  pub rest : (j : ℕ) → i ≤ j → get_or now j 0 ≡ get_or h j 0
  pub calm : stable ≡ list_all (λ k. swept_rate net D e h k == entry h k) (take i (movement_numbers net))
  pub below : list_any (λ k. nat_lt (flow_of net k * D) (swept_rate net D e h k)) (take i (movement_numbers net)) ≡ false

pub settling_start : (net : Network) (D e : ℕ) (h : List ℕ) → Settling net D e h 0 true h
settling_start net D e h = record { done = λ j l. absurd (omega arith); rest = λ j l. refl; calm = refl; below = refl }

number_here : (net : Network) (i : ℕ) → i < length net.movements → get_or (movement_numbers net) i 0 ≡ i + 1
number_here net i h = get_or-range_with_len 1 (length net.movements) i 0 h ∙ omega arith

pub settling_more : (net : Network) (D e : ℕ) (h : List ℕ) (i : ℕ) (stable next : Bool) (now : List ℕ) (at rate : ℕ) → Settling net D e h i stable now → i < length net.movements → length now ≡ length net.movements → at ≡ i →
    rate ≡ swept_rate net D e h (i + 1) → nat_lt (flow_of net (i + 1) * D) rate ≡ false → next ≡ (stable && (rate == get_or now at 0)) → Settling net D e h (i + 1) next (set now at rate)
settling_more net D e h i stable next now at rate s lt size e1 is low keeps =
    let m = movement_numbers net in
    let long : i < length m = omega (arith, length-range_with_len 1 (length net.movements)) in
    let f : ℕ → ℕ = swept_rate net D e h in
    let here = number_here net i lt in
    let back : (i + 1) - 1 ≡ i = omega arith in
    record {
      done = below_set (λ j b. b ≡ f (j + 1)) now i at rate e1 (omega arith) s.done is;
      rest = λ j l. let ne : j ≢ at = omega arith in get_or-set_other now at j rate 0 ne ∙ s.rest j (omega arith);
      calm =
          keeps ∙ ap₂ (λ a b. a && b) s.calm
          (ap₂ (λ a b. a == b) is (ap (λ t. get_or now t 0) e1 ∙ s.rest i (omega arith) ∙ ap (λ t. get_or h t 0) (sym back)) ∙ ap (λ k. f k == entry h k) (sym here))
          ∙ sym (list_all_more (λ k. f k == entry h k) m i 0 long);
      below =
          list_any_more (λ k. nat_lt (flow_of net k * D) (f k)) m i 0 long
          ∙ ap₂ (λ a b. a || b) s.below (ap (λ k. nat_lt (flow_of net k * D) (f k)) here ∙ ap (λ r. nat_lt (flow_of net (i + 1) * D) r) (sym is) ∙ low);
    }

-- a test of the swept rates, one by one
any_agree : (p q : ℕ → Bool) (xs : List ℕ) → AllByRecursion (λ k. p k ≡ q k) xs → list_any p xs ≡ list_any q xs
any_agree p q [] h = refl
any_agree p q (x ∷ xs) h = ap₂ (λ a b. a || b) h.0 (any_agree p q xs h.1)

above_is : (net : Network) (D e : ℕ) (h : List ℕ) → list_any (λ k. nat_lt (flow_of net k * D) (swept_rate net D e h k)) (movement_numbers net) ≡ is_above net D (swept net D e h)
unfolding swept
above_is net D e h =
    any_agree _ _ (movement_numbers net)
    (each_in (λ k. nat_lt (flow_of net k * D) (swept_rate net D e h k) ≡ nat_lt (flow_of net k * D) (entry (map (swept_rate net D e h) (movement_numbers net)) k)) (movement_numbers net)
    (λ k i. ap (λ r. nat_lt (flow_of net k * D) r) (sym (numbered (swept_rate net D e h) (length net.movements) k i))))

pub settling_above : (net : Network) (D e : ℕ) (h : List ℕ) (i rate : ℕ) → i < length net.movements → rate ≡ swept_rate net D e h (i + 1) → nat_lt (flow_of net (i + 1) * D) rate ≡ true → is_above net D (swept net D e h) ≡ true
settling_above net D e h i rate lt is high =
    let m = movement_numbers net in
    let long : i < length m = omega (arith, length-range_with_len 1 (length net.movements)) in
    sym (above_is net D e h)
    ∙ list_any_at (λ k. nat_lt (flow_of net k * D) (swept_rate net D e h k)) m i 0 long
    (ap (λ k. nat_lt (flow_of net k * D) (swept_rate net D e h k)) (number_here net i lt) ∙ ap (λ r. nat_lt (flow_of net (i + 1) * D) r) (sym is) ∙ high)

whole : (net : Network) (i : ℕ) → length net.movements ≤ i → take i (movement_numbers net) ≡ movement_numbers net
whole net i le = take_all i (movement_numbers net) (omega (arith, length-range_with_len 1 (length net.movements)))

pub settling_calm : (net : Network) (D e : ℕ) (h : List ℕ) (i : ℕ) (stable : Bool) (now : List ℕ) → Settling net D e h i stable now → length net.movements ≤ i → stable ≡ is_stable net D e h
settling_calm net D e h i stable now s le = s.calm ∙ ap (list_all (λ k. swept_rate net D e h k == entry h k)) (whole net i le)

pub settling_below : (net : Network) (D e : ℕ) (h : List ℕ) (i : ℕ) (stable : Bool) (now : List ℕ) → Settling net D e h i stable now → length net.movements ≤ i → is_above net D (swept net D e h) ≡ false
settling_below net D e h i stable now s le = sym (above_is net D e h) ∙ ap (list_any (λ k. nat_lt (flow_of net k * D) (swept_rate net D e h k))) (sym (whole net i le)) ∙ s.below

pub settling_rates : (net : Network) (D e : ℕ) (h : List ℕ) (i : ℕ) (stable : Bool) (now : List ℕ) → Settling net D e h i stable now → length now ≡ length net.movements → length net.movements ≤ i → now ≡ swept net D e h
unfolding swept
settling_rates net D e h i stable now s size le =
    numbers_by_all (swept_rate net D e h) now (length net.movements) size
    (λ k a b. let back : (k - 1) + 1 ≡ k = omega arith in s.done (k - 1) (omega arith) ∙ ap (swept_rate net D e h) back)

-- the rate that comes by the links
pub carried_is : (net : Network) → IsNetwork net → (D e : ℕ) (h brought : List ℕ) (k : ℕ) → (1 ≤ k) × (k ≤ length net.movements) → brought ≡ map (brought_to net D h) (link_numbers net) → carried net e brought k ≡ swept_rate net D e h k
unfolding swept_rate
carried_is net ok D e h brought k known is =
    let l = from_known net ok k known in
    let there : entry brought (from_of net k) ≡ brought_to net D h (from_of net k) =
    ap (λ b. entry b (from_of net k)) is ∙ numbered (brought_to net D h) (length net.links) (from_of net k) (has_numbers (length net.links) (from_of net k) l) in
    ap (λ b. rounded_up (share_of net k * b + net.shares * net.per * e) (net.shares * net.per)) there

pub ruleset settling = (settling_start, settling_more, settling_above, settling_calm, settling_below, settling_rates)

-- ---- one sweep after the other
nat_lt_zero : (x : ℕ) → nat_lt x 0 ≡ false
nat_lt_zero x = le-ltb x 0 (omega arith)

none_any : (p : ℕ → Bool) (xs : List ℕ) → AllByRecursion (λ k. p k ≡ false) xs → list_any p xs ≡ false
none_any p [] h = refl
none_any p (x ∷ xs) h = ap₂ (λ a b. a || b) h.0 (none_any p xs h.1)

zeros_are : (a n : ℕ) → replicate {A = ℕ} n 0 ≡ map (λ k. 0) (range_with_len a n)
zeros_are a zero = refl
zeros_are a (suc n) = ap (λ t. 0 ∷ t) (zeros_are (a + 1) n)

pub find_here : (p : ℕ → Bool) (i n : ℕ) → i < n → p i ≡ true → find p (range_with_len i (n - i)) ≡ Some i
find_here p i n h e =
    let more : n - i ≡ suc (n - (i + 1)) = omega arith in
    ap (λ m. find p (range_with_len i m)) more ∙ ap (λ b. cond b (Some i) (find p (range_with_len (i + 1) (n - (i + 1))))) e

pub find_past : (p : ℕ → Bool) (i n : ℕ) → i < n → p i ≡ false → find p (range_with_len i (n - i)) ≡ find p (range_with_len (i + 1) (n - (i + 1)))
find_past p i n h e =
    let more : n - i ≡ suc (n - (i + 1)) = omega arith in
    ap (λ m. find p (range_with_len i m)) more ∙ ap (λ b. cond b (Some i) (find p (range_with_len (i + 1) (n - (i + 1))))) e

pub find_end : (p : ℕ → Bool) (i n : ℕ) → n ≤ i → find p (range_with_len i (n - i)) ≡ None
find_end p i n h = let none : n - i ≡ 0 = omega arith in ap (λ m. find p (range_with_len i m)) none

pub record Sweeping (net : Network) (D e i : ℕ) (now : List ℕ) : Type 0 where
  pub rates : now ≡ rates_after net D e i
  pub below : is_above net D now ≡ false
  pub rest : sweeps_before_last net D e ≡ find (is_last_after net D e) (range_with_len i (sweep_limit - i))

pub sweeping_start : (net : Network) (D e : ℕ) (now : List ℕ) (n v : ℕ) → v ≡ 0 → n ≡ length net.movements → now ≡ replicate n v → Sweeping net D e 0 now
unfolding rates_after sweeps_before_last
sweeping_start net D e now n v z size is =
    let m = length net.movements in
    let at : now ≡ map (λ k. 0) (movement_numbers net) = is ∙ ap₂ (λ a b. replicate a b) size z ∙ zeros_are 1 m in
    let p : ℕ → Bool = λ k. nat_lt (flow_of net k * D) (entry (map (λ (k : ℕ). 0) (movement_numbers net)) k) in
    let all : sweep_limit ≡ sweep_limit - 0 = omega arith in
    record {
      rates = at;
      below =
          ap (is_above net D) at
          ∙ none_any p (movement_numbers net) (each_in (λ k. p k ≡ false) (movement_numbers net) (λ k i. ap (λ r. nat_lt (flow_of net k * D) r) (numbered (λ (k : ℕ). 0) m k i) ∙ nat_lt_zero (flow_of net k * D)));
      rest = ap (λ n. find (is_last_after net D e) (range_with_len 0 n)) all;
    }

all_true : (p : ℕ → Bool) (xs : List ℕ) → list_all p xs ≡ true → (k : ℕ) → has xs k ≡ true → p k ≡ true
all_true p xs all k h = at_in (λ k. p k ≡ true) k xs h (recursion_from_All (λ k. p k ≡ true) xs (AllPass-from_list_all p xs all))

-- a sweep that leaves each rate leaves the list
stays : (net : Network) (D e : ℕ) (now : List ℕ) → length now ≡ length net.movements → is_stable net D e now ≡ true → swept net D e now ≡ now
unfolding swept
stays net D e now size calm =
    sym (numbers_by_all (swept_rate net D e now) now (length net.movements) size
    (λ k a b. sym (eqb-true (swept_rate net D e now k) (entry now k) (all_true (λ k. swept_rate net D e now k == entry now k) (movement_numbers net) calm k (has_numbers (length net.movements) k (a, b))))))

last_is : (net : Network) (D e i : ℕ) (now : List ℕ) → now ≡ rates_after net D e i → is_last_after net D e i ≡ (is_above net D (swept net D e now) || is_stable net D e now)
unfolding is_last_after rates_after
last_is net D e i now is = sym (ap (λ h. is_above net D (swept net D e h) || is_stable net D e h) is)

next_is : (net : Network) (D e i : ℕ) (now : List ℕ) → now ≡ rates_after net D e i → swept net D e now ≡ rates_after net D e (suc i)
unfolding rates_after
next_is net D e i now is = ap (swept net D e) is

pub sweeping_above : (net : Network) (D e i : ℕ) (now rates : List ℕ) (stable : Bool) → Sweeping net D e i now → i < sweep_limit → EndsSweep Swept.Above (is_above net D (swept net D e now)) stable → EndsSweeps net D e Swept.Above (sweeps_before_last net D e) rates
sweeping_above net D e i now rates stable s lt high =
    (i, s.rest ∙ find_here (is_last_after net D e) i sweep_limit lt (last_is net D e i now s.rates ∙ ap (λ b. b || is_stable net D e now) high), sym (ap (is_above net D) (next_is net D e i now s.rates)) ∙ high)

pub sweeping_stable : (net : Network) (D e i : ℕ) (now next : List ℕ) → Sweeping net D e i now → i < sweep_limit → length now ≡ length net.movements → EndsSweep Swept.Stable (is_above net D (swept net D e now)) (is_stable net D e now) → IfNotAbove Swept.Stable (next ≡ swept net D e now) →
    EndsSweeps net D e Swept.Stable (sweeps_before_last net D e) next
sweeping_stable net D e i now next s lt size ends is =
    (i, s.rest ∙ find_here (is_last_after net D e) i sweep_limit lt (last_is net D e i now s.rates ∙ ap₂ (λ a b. a || b) ends.0 ends.1), sym (ap (is_above net D) (next_is net D e i now s.rates)) ∙ ends.0, is ∙ stays net D e now size ends.1 ∙ s.rates)

pub sweeping_more : (net : Network) (D e i : ℕ) (now next : List ℕ) → Sweeping net D e i now → i < sweep_limit → EndsSweep Swept.Moving (is_above net D (swept net D e now)) (is_stable net D e now) → IfNotAbove Swept.Moving (next ≡ swept net D e now) → Sweeping net D e (i + 1) next
sweeping_more net D e i now next s lt ends is =
    let one : suc i ≡ i + 1 = omega arith in
    record {
      rates = is ∙ next_is net D e i now s.rates ∙ ap (rates_after net D e) one;
      below = ap (is_above net D) is ∙ ends.0;
      rest = s.rest ∙ find_past (is_last_after net D e) i sweep_limit lt (last_is net D e i now s.rates ∙ ap₂ (λ a b. a || b) ends.0 ends.1);
    }

pub sweeping_end : (net : Network) (D e i : ℕ) (now : List ℕ) → Sweeping net D e i now → sweep_limit ≤ i → EndsSweeps net D e Swept.Moving (sweeps_before_last net D e) now
sweeping_end net D e i now s le = s.rest ∙ find_end (is_last_after net D e) i sweep_limit le

pub ruleset sweeping = (sweeping_start, sweeping_above, sweeping_stable, sweeping_more, sweeping_end)
