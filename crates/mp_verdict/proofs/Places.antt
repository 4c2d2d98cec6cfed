-- Values beside numbers, as a function of the number.
use Rattle.std.proofs.Common.{◌≡◌, ◌==◌, ℕ, ◌+◌, ◌*◌, Bool, true, false, cond, List, [], ◌∷◌, length, filter, sum_by, ℤ, pos, ◌+ℤ◌, ◌*ℤ◌, ◌≤ℤ◌, unsigned_abs, Option, Some, arith, refl, sym, ◌∙◌, ap, mul-zero, eq-eqb}
use Rattle.std.specs.List.{AllByRecursion, IsDistinct}
use Rattle.std.proofs.lemmas.Int.{ints}
use Rattle.std.proofs.lemmas.Bool.{or_left, or_right, false≢true}
use Rattle.std.proofs.lemmas.Option.{option_and_then_some}
use Rattle.std.proofs.lemmas.List.Sums.{sum_by-cons}
use Rattle.mp_model.specs.Network.{Network, Junction, movement_numbers, own, stands_in, has}
use Rattle.mp_laws.proofs.Sums.{sum_by-same_at, sum_by-zero, sum_by-same, there}
use Rattle.mp_laws.proofs.Distinct.{IsAbsent, one_at, range_distinct, distinct_filter}
use Rattle.mp_laws.proofs.Lists.{AllOf-map, filter_has}
use Rattle.mp_num.specs.Operations.{plus}
use Rattle.mp_verdict.specs.Game.{summed_beside}
use Rattle.mp_verdict.proofs.Plain.{values_of}
use Rattle.mp_verdict.proofs.Falls.{own_sum}
use Rattle.mp_verdict.proofs.FlowNumbers.{abs_is}
use Rattle.mp_verdict.proofs.Values.{Gives, gives-some, gives-plus, gives-same}

-- a value of a number that is not there
pub values_none : (ks : List ℕ) (zs : List ℤ) (m : ℕ) → (has ks m ≡ true → ⊥) → values_of ks zs m ≡ 0
values_none [] zs m h = refl
values_none (k ∷ ks) [] m h = refl
values_none (k ∷ ks) (z ∷ zs) m h = go (values_none ks zs m) (k == m) refl
  where
    go : ((has ks m ≡ true → ⊥) → values_of ks zs m ≡ 0) → (b : Bool) → (k == m) ≡ b → cond b (unsigned_abs z) (values_of ks zs m) ≡ 0
    go more true e = absurd (h (or_left (k == m) (has ks m) e))
    go more false e = more (λ i. h (or_right (k == m) (has ks m) i))

pub filter_test : (p : ℕ → Bool) (m : ℕ) (xs : List ℕ) → has (filter p xs) m ≡ true → p m ≡ true
filter_test p m xs h = filter_has p xs m h

-- outside a junction nothing stands beside its movements
pub values_outside : (net : Network) (j : Junction) (zs : List ℤ) (m : ℕ) → stands_in j m ≡ false → values_of (own net j) zs m ≡ 0
values_outside net j zs m h = values_none (own net j) zs m (λ i. false≢true (sym h ∙ filter_test (stands_in j) m (movement_numbers net) i))

pub own_distinct : (net : Network) (j : Junction) → IsDistinct ◌==◌ (own net j)
own_distinct net j = distinct_filter (stands_in j) (movement_numbers net) (range_distinct 1 (length net.movements))

value_here : (k : ℕ) (ks : List ℕ) (z : ℤ) (zs : List ℤ) → values_of (k ∷ ks) (z ∷ zs) k ≡ unsigned_abs z
value_here k ks z zs = ap (λ b. cond b (unsigned_abs z) (values_of ks zs k)) (eq-eqb k k refl)

value_later : (t : ℕ → ℕ) (k : ℕ) (ks : List ℕ) (z : ℤ) (zs : List ℤ) → IsAbsent k ks → sum_by (λ m. t m * values_of (k ∷ ks) (z ∷ zs) m) ks ≡ sum_by (λ m. t m * values_of ks zs m) ks
value_later t k ks z zs absent =
    sum_by-same_at (λ m. t m * values_of (k ∷ ks) (z ∷ zs) m) (λ m. t m * values_of ks zs m) ks
    (AllOf-map (λ m. (k == m) ≡ false) (λ m. t m * values_of (k ∷ ks) (z ∷ zs) m ≡ t m * values_of ks zs m) (λ m e. ap (λ b. t m * cond b (unsigned_abs z) (values_of ks zs m)) e) ks absent)

sum_step : (acc z : ℤ) (t n u : ℕ) → z ≡ pos n → acc +ℤ (pos t *ℤ z) +ℤ pos u ≡ acc +ℤ pos (t * n + u)
sum_step acc z t n u e = omega (arith, ints, ap (λ y. pos t *ℤ y) e)

-- a sum over two lists is the sum of the function
pub summed_gives : (term : ℕ → ℤ → Option ℤ) (t : ℕ → ℕ) → ((k : ℕ) (z : ℤ) → Gives (term k z) (pos (t k) *ℤ z)) → (acc : ℤ) (ks : List ℕ) (zs : List ℤ) → IsDistinct ◌==◌ ks → AllByRecursion (λ z. pos 0 ≤ℤ z) zs →
    Gives (summed_beside term acc ks zs) (acc +ℤ pos (sum_by (λ k. t k * values_of ks zs k) ks))
unfolding summed_beside IsDistinct
summed_gives term t h acc [] zs d all = gives-same _ _ _ (gives-some acc) (omega (arith, ints))
summed_gives term t h acc (k ∷ ks) [] d all = gives-same _ _ _ (gives-some acc) (let z = sum_by-same (λ m. t m * 0) (λ m. 0) (λ m. mul-zero (t m)) (k ∷ ks) in let y = sum_by-zero (k ∷ ks) in omega (arith, ints, z, y))
summed_gives term t h acc (k ∷ ks) (z ∷ zs) d all =
    record {
      at = λ v e.
          option_and_then_some _ (plus (Some acc) (term k z)) v e (λ next hn e'.
          (let first : next ≡ acc +ℤ (pos (t k) *ℤ z) = (gives-plus (Some acc) (term k z) acc (pos (t k) *ℤ z) (gives-some acc) (h k z)).at next hn in
          let rest = (summed_gives term t h next ks zs d.1 all.1).at v e' in
          let total = sum_by-cons (λ m. t m * values_of (k ∷ ks) (z ∷ zs) m) k ks in
          let later = value_later t k ks z zs d.0 in
          let here = ap (λ n. t k * n) (value_here k ks z zs) in
          rest ∙ ap (λ a. a +ℤ pos (sum_by (λ m. t m * values_of ks zs m) ks)) first ∙ sum_step acc z (t k) (unsigned_abs z) (sum_by (λ m. t m * values_of ks zs m) ks) (abs_is z all.0)
          ∙ ap (λ n. acc +ℤ pos n) (omega (arith, total, later, here))));
    }

-- over a junction's movements it is the sum over all
pub own_values : (net : Network) (j : Junction) (t : ℕ → ℕ) (zs : List ℤ) → sum_by (λ k. t k * values_of (own net j) zs k) (own net j) ≡ sum_by (λ k. t k * values_of (own net j) zs k) (movement_numbers net)
own_values net j t zs = own_sum net j (λ k. t k * values_of (own net j) zs k) (λ k m o. ap (λ n. t k * n) (values_outside net j zs k o) ∙ mul-zero (t k))

-- a sum with one term
pub sum_one : (g : ℕ → ℕ) (k : ℕ) (ks : List ℕ) → IsDistinct ◌==◌ ks → has ks k ≡ true → sum_by (λ m. cond (k == m) (g m) 0) ks ≡ g k
sum_one g k ks d h = let a = one_at k g ks d in let b = there g k ks h in omega arith
