-- The loops that list and sum the terms of movements.
use Rattle.std.proofs.Common.{◌≡◌, ℕ, ◌+◌, ◌-◌, ◌*◌, ◌<◌, ◌≤◌, List, [], ◌∷◌, ◌++◌, length, map, sum_by, get_or, take, refl, ap, ap₂, sym, ◌∙◌, arith, take_all}
use Rattle.std.proofs.lemmas.List.Sums.{sum_by_more}
use Rattle.std.proofs.lemmas.List.FromFn.{map-range_with_len_more, get_or-map-range_with_len, length-map-range_with_len, sum_by-map-range_with_len_more}
use Rattle.mp_model.specs.Network.{numbers_to}

-- the values of the numbers so far
pub record Listing {X : Type 0} (f : ℕ → X) (i : ℕ) (now : List X) : Type 0 where
  pub values : now ≡ map f (numbers_to i)

pub listing_start : {X : Type 0} (f : ℕ → X) → Listing f 0 []
listing_start f = record { values = refl }

pub listing_more : {X : Type 0} (f : ℕ → X) (i : ℕ) (now : List X) (x : X) → Listing f i now → x ≡ f (i + 1) → Listing f (i + 1) (now ++ x ∷ [])
listing_more f i now x s e = record {
  values = ap₂ (λ a b. a ++ b ∷ []) s.values e ∙ sym (map-range_with_len_more f 1 i (i + 1) (omega arith));
}

pub listing_end : {X : Type 0} (f : ℕ → X) (n i : ℕ) (now : List X) → Listing f i now → n ≤ i → i ≤ n → now ≡ map f (numbers_to n)
listing_end f n i now s h l = let e : i ≡ n = omega arith in s.values ∙ ap (λ k. map f (numbers_to k)) e

pub ruleset listing = (listing_start, listing_more, listing_end)

-- the sum of values, each at most so much, over the first entries of a list
pub record Summing (f : ℕ → ℕ) (most : ℕ) (xs : List ℕ) (i sum : ℕ) : Type 0 where
  pub value : sum ≡ sum_by f (take i xs)
  pub small : sum ≤ i * most

pub summing_start : (f : ℕ → ℕ) (most : ℕ) (xs : List ℕ) → Summing f most xs 0 0
summing_start f most xs = record { value = refl; small = omega arith }

pub summing_more : (f : ℕ → ℕ) (most : ℕ) (xs : List ℕ) (i sum v : ℕ) → Summing f most xs i sum → i < length xs → v ≡ f (get_or xs i 0) → v ≤ most → Summing f most xs (i + 1) (sum + v)
summing_more f most xs i sum v s h e few = record {
  value = omega (arith, s.value, e, sum_by_more f xs i 0 h);
  small = omega (arith, s.small, few);
}

pub summing_end : (f : ℕ → ℕ) (most : ℕ) (xs : List ℕ) (i sum : ℕ) → Summing f most xs i sum → length xs ≤ i → sum ≡ sum_by f xs
summing_end f most xs i sum s h = s.value ∙ ap (sum_by f) (take_all i xs h)

-- the same over the first numbers
pub record Counting (f : ℕ → ℕ) (most i sum : ℕ) : Type 0 where
  pub value : sum ≡ sum_by f (numbers_to i)
  pub small : sum ≤ i * most

pub counting_start : (f : ℕ → ℕ) (most : ℕ) → Counting f most 0 0
counting_start f most = record { value = refl; small = omega arith }

same_map : (f : ℕ → ℕ) (xs : List ℕ) → sum_by f (map (λ k. k) xs) ≡ sum_by f xs
same_map f xs = ap (sum_by f) (go xs)
  where
    go : (xs : List ℕ) → map (λ k. k) xs ≡ xs
    go [] = refl
    go (x ∷ xs) = ap (λ ys. x ∷ ys) (go xs)

numbers_more : (f : ℕ → ℕ) (i : ℕ) → sum_by f (numbers_to (i + 1)) ≡ sum_by f (numbers_to i) + f (i + 1)
numbers_more f i = sym (same_map f (numbers_to (i + 1))) ∙ sum_by-map-range_with_len_more f (λ k. k) 1 i (i + 1) (omega arith) ∙ ap (λ n. n + f (i + 1)) (same_map f (numbers_to i))

pub counting_more : (f : ℕ → ℕ) (most i sum v : ℕ) → Counting f most i sum → v ≡ f (i + 1) → v ≤ most → Counting f most (i + 1) (sum + v)
counting_more f most i sum v s e few = record {
  value = omega (arith, s.value, e, numbers_more f i);
  small = omega (arith, s.small, few);
}

pub counting_end : (f : ℕ → ℕ) (most n i sum : ℕ) → Counting f most i sum → n ≤ i → i ≤ n → sum ≡ sum_by f (numbers_to n)
counting_end f most n i sum s h l = let e : i ≡ n = omega arith in s.value ∙ ap (λ k. sum_by f (numbers_to k)) e

-- the value of number k in a list of all
pub value_at : {X : Type 0} (f : ℕ → X) (n k : ℕ) (d : X) (xs : List X) → xs ≡ map f (numbers_to n) → 1 ≤ k → k ≤ n → get_or xs (k - 1) d ≡ f k
value_at f n k d xs e low high = ap (λ ys. get_or ys (k - 1) d) e ∙ get_or-map-range_with_len f 1 n (k - 1) k d (omega arith) (omega arith)

pub value_count : {X : Type 0} (f : ℕ → X) (n : ℕ) (xs : List X) → xs ≡ map f (numbers_to n) → length xs ≡ n
value_count f n xs e = ap length e ∙ length-map-range_with_len f 1 n

pub ruleset summing = (summing_start, summing_more, summing_end)

pub ruleset counting = (counting_start, counting_more, counting_end)
