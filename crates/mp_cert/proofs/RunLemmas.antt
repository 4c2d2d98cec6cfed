-- Loops that form a running value, one step an element.
use Rattle.std.proofs.Common.{◌≡◌, ℕ, ◌+◌, ◌<◌, ◌≤◌, List, length, get_or, drop, Option, Some, None, option_and_then, ℤ, pos, refl, ap, ◌∙◌, arith, to_z-of_z}
use Rattle.std.proofs.lemmas.List.{drop_more, drop_all}
use Rattle.std.proofs.lemmas.List.FromFn.{length-range_with_len, get_or-range_with_len}
use Rattle.mp_model.specs.Network.{numbers_to}
use Rattle.mp_num.specs.Passing.{stepped}
use Rattle.mp_num.proofs.OutcomeLemmas.{run_cons}
use Rattle.mp_num.specs.Operations.{added, summed}

-- what is left gives what the whole gives
pub record Running {X S : Type 0} (step : S → X → Option S) (first : S) (xs : List X) (i : ℕ) (now : S) : Type 0 where
  pub rest : stepped step first xs ≡ stepped step now (drop i xs)

pub running_start : {X S : Type 0} (step : S → X → Option S) (first : S) (xs : List X) → Running step first xs 0 first
running_start step first xs = record { rest = refl }

running_at : {X S : Type 0} (step : S → X → Option S) (first : S) (xs : List X) (i : ℕ) (now : S) (d : X) → Running step first xs i now → i < length xs → stepped step first xs ≡ option_and_then (λ t. stepped step t (drop (i + 1) xs)) (step now (get_or xs i d))
running_at step first xs i now d r h = r.rest ∙ ap (stepped step now) (drop_more xs i d h) ∙ run_cons step now (get_or xs i d) (drop (i + 1) xs)

pub running_more : {X S : Type 0} (step : S → X → Option S) (first : S) (xs : List X) (i : ℕ) (now next : S) (d : X) → Running step first xs i now → i < length xs → step now (get_or xs i d) ≡ Some next → Running step first xs (i + 1) next
running_more step first xs i now next d r h e = record { rest = running_at step first xs i now d r h ∙ ap (option_and_then (λ t. stepped step t (drop (i + 1) xs))) e }

pub running_passes : {X S : Type 0} (step : S → X → Option S) (first : S) (xs : List X) (i : ℕ) (now : S) (d : X) → Running step first xs i now → i < length xs → step now (get_or xs i d) ≡ None → stepped step first xs ≡ None
running_passes step first xs i now d r h e = running_at step first xs i now d r h ∙ ap (option_and_then (λ t. stepped step t (drop (i + 1) xs))) e

pub running_end : {X S : Type 0} (step : S → X → Option S) (first : S) (xs : List X) (i : ℕ) (now : S) → Running step first xs i now → length xs ≤ i → stepped step first xs ≡ Some now
unfolding stepped
running_end step first xs i now r h = r.rest ∙ ap (stepped step now) (drop_all i xs h)

pub summed_is : {X : Type 0} (term : X → Option ℤ) (xs : List X) → stepped (added term) (pos 0) xs ≡ summed term xs
unfolding summed
summed_is term xs = refl

pub ruleset running = (to_z-of_z, running_start, running_more, running_passes, running_end, summed_is)

-- the same over the numbers from 1 on
pub number_at : (n i : ℕ) → i < n → get_or (numbers_to n) i 0 ≡ i + 1
number_at n i h = get_or-range_with_len 1 n i 0 h ∙ omega arith

pub counting_more : {S : Type 0} (step : S → ℕ → Option S) (first : S) (n i : ℕ) (now next : S) → Running step first (numbers_to n) i now → i < n → step now (i + 1) ≡ Some next → Running step first (numbers_to n) (i + 1) next
counting_more step first n i now next r h e = running_more step first (numbers_to n) i now next 0 r (omega (arith, length-range_with_len 1 n)) (ap (step now) (number_at n i h) ∙ e)

pub counting_passes : {S : Type 0} (step : S → ℕ → Option S) (first : S) (n i : ℕ) (now : S) → Running step first (numbers_to n) i now → i < n → step now (i + 1) ≡ None → stepped step first (numbers_to n) ≡ None
counting_passes step first n i now r h e = running_passes step first (numbers_to n) i now 0 r (omega (arith, length-range_with_len 1 n)) (ap (step now) (number_at n i h) ∙ e)

pub counting_end : {S : Type 0} (step : S → ℕ → Option S) (first : S) (n i : ℕ) (now : S) → Running step first (numbers_to n) i now → n ≤ i → stepped step first (numbers_to n) ≡ Some now
counting_end step first n i now r h = running_end step first (numbers_to n) i now r (omega (arith, length-range_with_len 1 n))

pub ruleset counting = (to_z-of_z, running_start, counting_more, counting_passes, counting_end)

pub ruleset terms = (to_z-of_z)
