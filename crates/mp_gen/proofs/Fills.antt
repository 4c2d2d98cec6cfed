-- The arrivals of a period, link by link.
use Rattle.std.proofs.Common.{◌≡◌, ◌≤◌, ◌<◌, ◌^◌, ℕ, zero, suc, ◌+◌, true, List, [], ◌∷◌, ◌++◌, length, get_or, drop, arith, refl, sym, ◌∙◌, ap, subst, append-nil, append_assoc, length-append}
use Rattle.std.specs.List.{All, AllByRecursion}
use Rattle.std.proofs.lemmas.List.{drop_more, drop_all}
use Rattle.std.proofs.lemmas.List.Elements.{All-push}
use Rattle.rand_pcg.specs.Lcg.{Lcg}
use Rattle.rand_pcg.specs.Pcg.{pcg32}
use Rattle.mp_model.specs.Network.{Network, has, link_at, is_fed, fed, link_numbers}
use Rattle.mp_laws.proofs.Lists.{all_in, at_range, in_numbers, keep_all}
use Rattle.mp_step.specs.Standing.{Standing}
use Rattle.mp_step.specs.Taken.{HasTaken}
use Rattle.mp_gen.specs.DemoArrivals.{IsArrival, IsDrawn}

-- a number within is one of the links
pub is_link : (net : Network) (l : ℕ) → 1 ≤ l → l ≤ length net.links → has (link_numbers net) l ≡ true
is_link net l some most = at_range (λ k. has (link_numbers net) k ≡ true) 1 (length net.links) l some (omega arith) (all_in (link_numbers net))

at_place : (P : ℕ → Type 0) (xs : List ℕ) → AllByRecursion P xs → (i : ℕ) → i < length xs → (d : ℕ) → P (get_or xs i d)
at_place P [] h i low d = absurd (omega arith)
at_place P (x ∷ xs) h zero low d = h.0
at_place P (x ∷ xs) h (suc i) low d = at_place P xs h.1 i (omega arith) d

-- each fed link is a link
fed_known : (net : Network) (i l : ℕ) → i < length (fed net) → l ≡ get_or (fed net) i 0 → (1 ≤ l) × (l ≤ length net.links)
fed_known net i l low is =
    let there = at_place (λ k. has (link_numbers net) k ≡ true) (fed net) (keep_all (λ k. has (link_numbers net) k ≡ true) (λ k. is_fed (link_at net k)) (link_numbers net) (all_in (link_numbers net))) i low 0 in
    let known : has (link_numbers net) l ≡ true = subst (λ k. has (link_numbers net) k ≡ true) (sym is) there in
    let within = in_numbers (length net.links) l known in
    (within.0, omega (arith, within.1))

pub fed_at : (net : Network) (fs : List ℕ) (i : ℕ) → fs ≡ fed net → i < length fs → (1 ≤ get_or fs i 0) × (get_or fs i 0 ≤ length net.links)
fed_at net fs i are low = subst (λ (xs : List ℕ). (1 ≤ get_or xs i 0) × (get_or xs i 0 ≤ length net.links)) (sym are) (fed_known net i (get_or (fed net) i 0) (omega (arith, ap length are)) refl)

-- the first i fed links have drawn these counts, and the counts of the others complete the period
pub record FilledTo (net : Network) (at : Standing) (words now : Lcg) (items : List ℕ) (i : ℕ) : Type 0 where
  pub count : length items ≡ i
  pub digits : All (λ a. a < 10 ^ 9) items
  pub more : (A : List (List ℕ)) → HasTaken net at A → (rest : List ℕ) (left : Lcg) → IsDrawn net A (drop i (fed net)) now rest left → IsDrawn net A (fed net) words (items ++ rest) left

pub filled_start : (net : Network) (at : Standing) (words : Lcg) (items : List ℕ) → items ≡ [] → FilledTo net at words words items 0
filled_start net at words items none = record {
  count = ap length none;
  digits = subst (All (λ a. a < 10 ^ 9)) (sym none) (λ k d low. absurd (omega arith));
  more = λ A taken rest left drawn. subst (λ (xs : List ℕ). IsDrawn net A (fed net) words (xs ++ rest) left) (sym none) drawn;
}

pub filled_more : (net : Network) (at : Standing) (words now next : Lcg) (items items' : List ℕ) (i i' l count : ℕ) → FilledTo net at words now items i → i < length (fed net) → l ≡ get_or (fed net) i 0 → i' ≡ i + 1
    → ((A : List (List ℕ)) → HasTaken net at A → IsArrival net A l (pcg32 now).0 count) → next ≡ (pcg32 now).1 → count < 5 → items' ≡ items ++ count ∷ [] → FilledTo net at words next items' i'
filled_more net at words now next items items' i i' l count filled low is one arrival left few pushed =
    let rest_is : drop i (fed net) ≡ l ∷ drop (i + 1) (fed net) = drop_more (fed net) i 0 low ∙ ap (λ k. k ∷ drop (i + 1) (fed net)) (sym is) in
    record {
      count = ap length pushed ∙ length-append items (count ∷ []) ∙ ap (λ n. n + 1) filled.count ∙ sym one;
      digits = subst (All (λ a. a < 10 ^ 9)) (sym pushed) (All-push (λ a. a < 10 ^ 9) items count filled.digits (omega arith));
      more = λ A taken rest last drawn.
          let here : IsDrawn net A (l ∷ drop (i + 1) (fed net)) now (count ∷ rest) last =
          (arrival A taken, subst (λ (w : Lcg). IsDrawn net A (drop (i + 1) (fed net)) w rest last) left (subst (λ k. IsDrawn net A (drop k (fed net)) next rest last) one drawn)) in
          let whole : IsDrawn net A (fed net) words (items ++ count ∷ rest) last =
          filled.more A taken (count ∷ rest) last (subst (λ (ls : List ℕ). IsDrawn net A ls now (count ∷ rest) last) (sym rest_is) here) in
          subst (λ (xs : List ℕ). IsDrawn net A (fed net) words xs last) (sym (ap (λ (xs : List ℕ). xs ++ rest) pushed ∙ append_assoc items (count ∷ []) rest)) whole;
    }

pub filled_drawn : (net : Network) (at : Standing) (words now : Lcg) (items : List ℕ) (i : ℕ) → FilledTo net at words now items i → length (fed net) ≤ i → (A : List (List ℕ)) → HasTaken net at A → IsDrawn net A (fed net) words items now
filled_drawn net at words now items i filled past A taken =
    subst (λ (xs : List ℕ). IsDrawn net A (fed net) words xs now) (append-nil items)
    (filled.more A taken [] now (subst (λ (ls : List ℕ). IsDrawn net A ls now [] now) (sym (drop_all i (fed net) past)) refl))
