-- A loop that forms the sum over the movements out of links with a rate above 0.
use Rattle.std.proofs.Common.{◌≡◌, ◌<◌, ◌≤◌, ◌+◌, ℕ, Bool, true, false, cond, List, [], ◌∷◌, length, filter, Option, Some, None, option_and_then, ℤ, pos, refl, sym, ◌∙◌, to_z-of_z}
use Rattle.std.specs.Prelude.{nat_lt}
use Rattle.mp_model.specs.Network.{Network, numbers_to, movement_numbers, rate_before}
use Rattle.mp_num.specs.Passing.{stepped}
use Rattle.mp_num.specs.Operations.{added, summed}
use Rattle.mp_cert.proofs.RunLemmas.{Running, counting_end, running_start, counting_more, counting_passes}
use Rattle.mp_overload.specs.Growing.{rated}
use Rattle.mp_growth.specs.Formed.{rated_added}

-- the sum takes in what passes the test
filtered : (net : Network) (term : ℕ → Option ℤ) (xs : List ℕ) (sum : ℤ) → stepped (rated_added net term) sum xs ≡ stepped (added term) sum (filter (λ k. nat_lt 0 (rate_before net k)) xs)
unfolding stepped rated_added
filtered net term [] sum = refl
filtered net term (x ∷ xs) sum = go (λ t. filtered net term xs t) (nat_lt 0 (rate_before net x))
  where
    kept : List ℕ
    kept = filter (λ k. nat_lt 0 (rate_before net k)) xs

    rest : ((t : ℤ) → stepped (rated_added net term) t xs ≡ stepped (added term) t kept) → (o : Option ℤ) → option_and_then (λ t. stepped (rated_added net term) t xs) o ≡ option_and_then (λ t. stepped (added term) t kept) o
    rest more None = refl
    rest more (Some t) = more t

    go : ((t : ℤ) → stepped (rated_added net term) t xs ≡ stepped (added term) t kept) → (b : Bool) →
        option_and_then (λ t. stepped (rated_added net term) t xs) (cond b (added term sum x) (Some sum)) ≡ stepped (added term) sum (cond b (x ∷ kept) kept)
    go more true = rest more (added term sum x)
    go more false = more sum

sum_is : (net : Network) (term : ℕ → Option ℤ) → stepped (rated_added net term) (pos 0) (movement_numbers net) ≡ summed term (rated net)
unfolding summed
sum_is net term = filtered net term (movement_numbers net) (pos 0)

pub rated_passes : (net : Network) (term : ℕ → Option ℤ) (i : ℕ) (now : ℤ) → Running (rated_added net term) (pos 0) (numbers_to (length net.movements)) i now → i < length net.movements → rated_added net term now (i + 1) ≡ None → summed term (rated net) ≡ None
rated_passes net term i now running low none = sym (sum_is net term) ∙ counting_passes (rated_added net term) (pos 0) (length net.movements) i now running low none

pub rated_end : (net : Network) (term : ℕ → Option ℤ) (i : ℕ) (now : ℤ) → Running (rated_added net term) (pos 0) (numbers_to (length net.movements)) i now → length net.movements ≤ i → summed term (rated net) ≡ Some now
rated_end net term i now running past = sym (sum_is net term) ∙ counting_end (rated_added net term) (pos 0) (length net.movements) i now running past

pub ruleset filtering = (to_z-of_z, running_start, counting_more, rated_passes, rated_end)
