-- Loops that push the values of a calculation one by one, or sum them.
use Rattle.std.proofs.Common.{◌≡◌, ℕ, ◌+◌, ◌*◌, ◌<◌, ◌≤◌, List, [], ◌∷◌, ◌++◌, Option, Some, None, option_map, option_and_then, drop, take, get_or, length, sum_by, refl, ap, sym, ◌∙◌, arith, take_all}
use Rattle.std.proofs.lemmas.List.{drop_all, append-nil}
use Rattle.std.proofs.lemmas.List.FromFn.{length-range_with_len, get_or-range_with_len}
use Rattle.std.proofs.lemmas.List.Sums.{sum_by_more}
use Rattle.mp_num.specs.Passing.{each}
use Rattle.mp_num.proofs.PassingLemmas.{before, before_nil, before_one, each_at}
use Rattle.mp_model.specs.Network.{numbers_to}

-- what was pushed, and is still to come, over the numbers from 1 on
pub record Numbering {X : Type 0} (f : ℕ → Option X) (n t : ℕ) (now : List X) : Type 0 where
  pub rest : each f (numbers_to n) ≡ before now (each f (drop t (numbers_to n)))

pub numbering_start : {X : Type 0} (f : ℕ → Option X) (n : ℕ) → Numbering f n 0 []
numbering_start f n = record { rest = sym (before_nil (each f (numbers_to n))) }

number_at : {X : Type 0} (f : ℕ → Option X) (n t : ℕ) → t < n → each f (drop t (numbers_to n)) ≡ option_and_then (λ z. option_map (λ zs. z ∷ zs) (each f (drop (t + 1) (numbers_to n)))) (f (t + 1))
number_at f n t h =
    let place : get_or (numbers_to n) t 0 ≡ t + 1 = get_or-range_with_len 1 n t 0 h ∙ omega arith in
    each_at f (numbers_to n) t 0 (omega (arith, length-range_with_len 1 n)) ∙ ap (λ k. option_and_then (λ z. option_map (λ zs. z ∷ zs) (each f (drop (t + 1) (numbers_to n)))) (f k)) place

pub numbering_more : {X : Type 0} (f : ℕ → Option X) (n t : ℕ) (now : List X) (z : X) → Numbering f n t now → t < n → f (t + 1) ≡ Some z → Numbering f n (t + 1) (now ++ z ∷ [])
numbering_more f n t now z s h v = record {
  rest = s.rest ∙ ap (before now) (number_at f n t h ∙ ap (option_and_then (λ z. option_map (λ zs. z ∷ zs) (each f (drop (t + 1) (numbers_to n))))) v) ∙ before_one now z _;
}

pub numbering_fails : {X : Type 0} (f : ℕ → Option X) (n t : ℕ) (now : List X) → Numbering f n t now → t < n → f (t + 1) ≡ None → each f (numbers_to n) ≡ None
numbering_fails f n t now s h v = s.rest ∙ ap (before now) (number_at f n t h ∙ ap (option_and_then (λ z. option_map (λ zs. z ∷ zs) (each f (drop (t + 1) (numbers_to n))))) v)

pub numbering_end : {X : Type 0} (f : ℕ → Option X) (n t : ℕ) (now : List X) → Numbering f n t now → n ≤ t → each f (numbers_to n) ≡ Some now
unfolding each
numbering_end f n t now s h = s.rest ∙ rw (drop_all t (numbers_to n) (omega (arith, length-range_with_len 1 n))) (ap Some (append-nil now))

pub ruleset numbering = (numbering_start, numbering_more, numbering_fails, numbering_end)

-- the sum of values, each at most so much, over the first entries of a list
pub record Summing (f : ℕ → ℕ) (most : ℕ) (xs : List ℕ) (i sum : ℕ) : Type 0 where
  pub value : sum ≡ sum_by f (take i xs)
  pub small : sum ≤ i * most

pub summing_start : (f : ℕ → ℕ) (most : ℕ) (xs : List ℕ) → Summing f most xs 0 0
summing_start f most xs = record { value = refl; small = omega arith }

pub summing_more : (f : ℕ → ℕ) (most : ℕ) (xs : List ℕ) (i sum v : ℕ) → Summing f most xs i sum → i < length xs → v ≡ f (get_or xs i 0) → v ≤ most → Summing f most xs (i + 1) (sum + v)
summing_more f most xs i sum v s h e few = record {
  value = omega (arith, s.value, e, sum_by_more f xs i 0 h);
  small = omega (arith, s.small, few);
}

pub summing_end : (f : ℕ → ℕ) (most : ℕ) (xs : List ℕ) (i sum : ℕ) → Summing f most xs i sum → length xs ≤ i → sum ≡ sum_by f xs
summing_end f most xs i sum s h = s.value ∙ ap (sum_by f) (take_all i xs h)

pub ruleset summing = (summing_start, summing_more, summing_end)
