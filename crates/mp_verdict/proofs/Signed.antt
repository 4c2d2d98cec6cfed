-- Signed sums and products.
use Rattle.std.proofs.Common.{◌≡◌, ℕ, ◌*◌, List, [], ◌∷◌, sum_by, ℤ, pos, ◌+ℤ◌, ◌*ℤ◌, ◌≤ℤ◌, arith, refl, sym, ◌∙◌, ap, ap₂}
use Rattle.std.specs.List.{AllByRecursion}
use Rattle.std.proofs.lemmas.Int.{ints}
use Rattle.std.proofs.lemmas.List.Sums.{sum_by-cons}
use Rattle.mp_num.proofs.Ring.{mul_distr}
use Rattle.mp_model.specs.Sums.{int_sum_by}
use Rattle.mp_laws.proofs.Signed.{mul_le}

pub ints-same_at : (f g : ℕ → ℤ) (xs : List ℕ) → AllByRecursion (λ x. f x ≡ g x) xs → int_sum_by f xs ≡ int_sum_by g xs
ints-same_at f g [] h = refl
ints-same_at f g (x ∷ xs) h = ap₂ (λ a b. a +ℤ b) h.0 (ints-same_at f g xs h.1)

pub ints-le_at : (f g : ℕ → ℤ) (xs : List ℕ) → AllByRecursion (λ x. f x ≤ℤ g x) xs → int_sum_by f xs ≤ℤ int_sum_by g xs
ints-le_at f g [] h = omega (arith, ints)
ints-le_at f g (x ∷ xs) h = let r = ints-le_at f g xs h.1 in let a : f x ≤ℤ g x = h.0 in omega (arith, ints)

pub ints-scale : (c : ℤ) (f : ℕ → ℤ) (xs : List ℕ) → int_sum_by (λ x. c *ℤ f x) xs ≡ c *ℤ int_sum_by f xs
ints-scale c f [] = omega (arith, ints)
ints-scale c f (x ∷ xs) = ap (λ s. c *ℤ f x +ℤ s) (ints-scale c f xs) ∙ sym (mul_distr c (f x) (int_sum_by f xs))

pub ints-plus : (f g : ℕ → ℤ) (xs : List ℕ) → int_sum_by (λ x. f x +ℤ g x) xs ≡ int_sum_by f xs +ℤ int_sum_by g xs
ints-plus f g [] = refl
ints-plus f g (x ∷ xs) = let r = ints-plus f g xs in omega (arith, ints)

pub ints-pos : (f : ℕ → ℕ) (xs : List ℕ) → int_sum_by (λ x. pos (f x)) xs ≡ pos (sum_by f xs)
ints-pos f [] = refl
ints-pos f (x ∷ xs) = let r = ints-pos f xs in omega (arith, ints, sum_by-cons f x xs)

pub mul_posℤ : (a b : ℕ) → pos a *ℤ pos b ≡ pos (a * b)
mul_posℤ a b = omega (arith, ints)

-- order under a factor that is not negative
pub mul_le_nat : (n : ℕ) (a b : ℤ) → a ≤ℤ b → (pos n *ℤ a) ≤ℤ (pos n *ℤ b)
mul_le_nat n a b h = mul_le (pos n) a b (omega (arith, ints)) h
