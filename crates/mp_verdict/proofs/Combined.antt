-- Sums over the movements of a junction and over the stages that hold them.
use Rattle.std.proofs.Common.{◌≡◌, ◌==◌, ℕ, ◌+◌, ◌*◌, ◌≤◌, max, Bool, true, false, cond, ◌||◌, List, [], ◌∷◌, map, sum_by, arith, refl, sym, ◌∙◌, subst, mul-le-mul_left, mul-zero, zero-le}
use Rattle.std.specs.List.{AllByRecursion, IsDistinct}
use Rattle.std.proofs.lemmas.Bool.{false≢true}
use Rattle.std.proofs.lemmas.List.Sums.{sum_by-cons}
use Rattle.mp_model.specs.Load.{greatest}
use Rattle.mp_model.specs.Network.{has}
use Rattle.mp_laws.proofs.PlainCertificate.{plain_parts_with}
use Rattle.mp_laws.proofs.Sums.{sum_by-le, sum_by-same, sum_by-mul, sum_by-add, sum_by-zero, there}
use Rattle.mp_laws.proofs.Distinct.{shared_le, IsAbsent}
use Rattle.mp_laws.proofs.Lists.{at_in}

head_term : (b : Bool) (g part rest : ℕ) → g * (cond b part 0 + rest) ≡ part * cond b g 0 + g * rest
head_term true g part rest = omega arith
head_term false g part rest = omega arith

mix_step : (p t s m x y : ℕ) → x ≤ s → y ≤ t * m → p * x + y ≤ (p + t) * max s m
mix_step p t s m x y h k =
    let a : s ≤ max s m = omega arith in
    let b : m ≤ max s m = omega arith in
    omega (arith, mul-le-mul_left p h, mul-le-mul_left p a, mul-le-mul_left t b)

-- a sum that the parts weigh is at most the mass times the greatest sum of a stage
pub combined_le : (g : ℕ → ℕ) (ks : List ℕ) → IsDistinct ◌==◌ ks → (stages : List (List ℕ)) (parts : List ℕ) →
    sum_by (λ k. g k * plain_parts_with stages parts k) ks ≤ sum_by (λ x. x) parts * greatest (map (sum_by g) stages)
combined_le g ks d [] parts = omega (arith, sum_by-same (λ k. g k * 0) (λ k. 0) (λ k. mul-zero (g k)) ks, sum_by-zero ks)
combined_le g ks d (stage ∷ stages) [] = omega (arith, sum_by-same (λ k. g k * 0) (λ k. 0) (λ k. mul-zero (g k)) ks, sum_by-zero ks)
combined_le g ks d (stage ∷ stages) (part ∷ parts) =
    let split = sum_by-same (λ k. g k * (cond (has stage k) part 0 + plain_parts_with stages parts k)) (λ k. part * cond (has stage k) (g k) 0 + g k * plain_parts_with stages parts k) (λ k. head_term (has stage k) (g k) part (plain_parts_with stages parts k)) ks in
    let parted = sum_by-add (λ k. part * cond (has stage k) (g k) 0) (λ k. g k * plain_parts_with stages parts k) ks in
    let factor = sum_by-mul part (λ k. cond (has stage k) (g k) 0) ks in
    let step = mix_step part (sum_by (λ x. x) parts) (sum_by g stage) (greatest (map (sum_by g) stages)) (sum_by (λ k. cond (has stage k) (g k) 0) ks) (sum_by (λ k. g k * plain_parts_with stages parts k) ks) (shared_le g stage ks d) (combined_le g ks d stages parts) in
    let total : sum_by (λ x. x) (part ∷ parts) ≡ part + sum_by (λ x. x) parts = sum_by-cons (λ x. x) part parts in
    subst (λ n. sum_by (λ k. g k * plain_parts_with (stage ∷ stages) (part ∷ parts) k) ks ≤ n * greatest (map (sum_by g) (stage ∷ stages))) (sym total) (omega (arith, split, parted, factor, step))

-- a list without repeats lies within another that holds its entries
both_tests : (x k : ℕ) (xs : List ℕ) (g : ℕ) → IsAbsent x xs → (b : Bool) → (x == k) ≡ b → cond b g 0 + cond (has xs k) g 0 ≤ cond (b || has xs k) g 0
both_tests x k xs g d true e = go (has xs k) refl
  where
    go : (c : Bool) → has xs k ≡ c → g + cond c g 0 ≤ g
    go true h = absurd (false≢true (sym (at_in (λ y. (x == y) ≡ false) k xs h d) ∙ e))
    go false h = omega arith
both_tests x k xs g d false e = omega arith

pub spread_le : (g : ℕ → ℕ) (xs ks : List ℕ) → IsDistinct ◌==◌ xs → AllByRecursion (λ x. has ks x ≡ true) xs → sum_by g xs ≤ sum_by (λ k. cond (has xs k) (g k) 0) ks
unfolding IsDistinct
spread_le g [] ks d i = zero-le
spread_le g (x ∷ xs) ks d i = omega (
  arith,
  sum_by-cons g x xs,
  there g x ks i.0,
  spread_le g xs ks d.1 i.1,
  sum_by-add (λ k. cond (x == k) (g k) 0) (λ k. cond (has xs k) (g k) 0) ks,
  sum_by-le (λ k. cond (x == k) (g k) 0 + cond (has xs k) (g k) 0) (λ k. cond (has (x ∷ xs) k) (g k) 0) (λ k. both_tests x k xs (g k) d.0 (x == k) refl) ks,
)
