-- the order of products of whole numbers
use Rattle.std.proofs.Common.{◌≡◌, ℤ, pos, negsuc, ◌-ℤ◌, ◌*ℤ◌, ◌≤ℤ◌, ◌<ℤ◌, int_lt, ◌∙◌, subst, arith, inl, inr, ◌⊎◌}
use Rattle.std.proofs.lemmas.Int.{ints}
use Rattle.mp_num.proofs.Ring.{diff_of, differences, diff-eq}
use Rattle.mp_num.proofs.RowLemmas.{zero_from_product, positive_product}
use Rattle.mp_num.proofs.OutcomeLemmas.{bool_cases}

pub cases_le : (x y : ℤ) → (x ≤ℤ y) ⊎ (y <ℤ x)
cases_le x y = elim (bool_cases (int_lt y x)) [ inl below ↦ inr (omega (arith, ints, below)) | inr above ↦ inl (omega (arith, ints, above)) ]

pub product_not_negative : (x y : ℤ) → pos 0 ≤ℤ x → pos 0 ≤ℤ y → pos 0 ≤ℤ (x *ℤ y)
product_not_negative (pos m) (pos n) h l = omega (arith, ints)
product_not_negative (pos m) (negsuc n) h l = absurd (omega (arith, ints))
product_not_negative (negsuc m) y h l = absurd (omega (arith, ints))

pub minus_law : (g x y : ℤ) → g *ℤ (x -ℤ y) ≡ g *ℤ x -ℤ g *ℤ y
minus_law g x y = rw (diff_of g, diff_of x, diff_of y) (simp differences (diff-eq _ _ _ _ (omega arith)))

pub times_le : (g x y : ℤ) → pos 0 ≤ℤ g → x ≤ℤ y → (g *ℤ x) ≤ℤ (g *ℤ y)
times_le g x y h l = let more : pos 0 ≤ℤ (g *ℤ (y -ℤ x)) = product_not_negative g (y -ℤ x) h (omega (arith, ints)) in
    let law : g *ℤ (y -ℤ x) ≡ g *ℤ y -ℤ g *ℤ x = minus_law g y x in kept (g *ℤ (y -ℤ x)) (g *ℤ y) (g *ℤ x) more law
  where
    kept : (t u v : ℤ) → pos 0 ≤ℤ t → t ≡ u -ℤ v → v ≤ℤ u
    kept t u v h e = omega (arith, ints)

pub cancel_le : (g x y : ℤ) → pos 1 ≤ℤ g → (g *ℤ x) ≤ℤ (g *ℤ y) → x ≤ℤ y
cancel_le g x y h l = elim (cases_le x y) [
  | inl fine ↦ fine
  | inr above ↦ (let more : pos 1 ≤ℤ (g *ℤ (x -ℤ y)) = positive_product g (x -ℤ y) h (omega (arith, ints)) in
      let law : g *ℤ (x -ℤ y) ≡ g *ℤ x -ℤ g *ℤ y = minus_law g x y in absurd (refuted (g *ℤ (x -ℤ y)) (g *ℤ x) (g *ℤ y) more law l))
]
  where
    refuted : (t u v : ℤ) → pos 1 ≤ℤ t → t ≡ u -ℤ v → u ≤ℤ v → ⊥
    refuted t u v h e l = omega (arith, ints)

pub cancel_same : (g x y : ℤ) → pos 1 ≤ℤ g → g *ℤ x ≡ g *ℤ y → x ≡ y
cancel_same g x y h e =
    let apart : x -ℤ y ≡ pos 0 = zero_from_product g (x -ℤ y) h (minus_law g x y ∙ omega (arith, ints, e)) in
    omega (arith, ints, apart)

pub not_negative_factor : (g x : ℤ) → pos 1 ≤ℤ g → pos 0 ≤ℤ (g *ℤ x) → pos 0 ≤ℤ x
not_negative_factor g x h l = cancel_le g (pos 0) x h (subst (λ (t : ℤ). t ≤ℤ (g *ℤ x)) (none g) l)
  where
    none : (g : ℤ) → pos 0 ≡ g *ℤ pos 0
    none g = omega (arith, ints)
