use Rattle.std.proofs.Common.{◌≡◌, ℕ, List, ℤ, pos, ◌-ℤ◌, ◌*ℤ◌, arith, ap, ap₂, sym, ◌∙◌}
use Rattle.std.proofs.lemmas.Int.{ints}
use Rattle.mp_num.proofs.Ring.{diff_of, differences, diff-eq, mul_assocz}
use Rattle.mp_num.specs.Row.{entry, applied}
use Rattle.mp_num.specs.Divisor.{reduced}
use Rattle.mp_num.proofs.SumLemmas.{total-same, total-combine, total-scale}
use Rattle.mp_num.proofs.RowLemmas.{Combination, IsMultiple, reduced_multiple, zero_from_product}

one_sided : (p a t : ℤ) → p *ℤ t -ℤ a *ℤ pos 0 ≡ p *ℤ t
one_sided p a t = omega (arith, ints)

nothing : (g : ℤ) → g *ℤ pos 0 ≡ pos 0
nothing g = omega (arith, ints)

spread_law : (p a r q y : ℤ) → (p *ℤ r -ℤ a *ℤ q) *ℤ y ≡ p *ℤ (r *ℤ y) -ℤ a *ℤ (q *ℤ y)
spread_law p a r q y = rw (diff_of p, diff_of a, diff_of r, diff_of q, diff_of y) (simp differences (diff-eq _ _ _ _ (omega arith)))

scaled_law : (g p a o r q y : ℤ) → g *ℤ o ≡ p *ℤ r -ℤ a *ℤ q → g *ℤ (o *ℤ y) ≡ p *ℤ (r *ℤ y) -ℤ a *ℤ (q *ℤ y)
scaled_law g p a o r q y e = sym (mul_assocz g o y) ∙ ap (λ t. t *ℤ y) e ∙ spread_law p a r q y

-- the combination times a list of values
pub applied_combining : (width j : ℕ) (y : ℕ → ℤ) (pivot row out : List ℤ) (p a : ℤ) (g : ℕ) → Combination j pivot row out p a g →
    pos g *ℤ applied width out y ≡ p *ℤ applied width row y -ℤ a *ℤ applied width pivot y
applied_combining width j y pivot row out p a g c =
    sym (total-scale width (pos g) (λ k. entry out k *ℤ y k))
    ∙ total-same width _ _ (λ k _. scaled_law (pos g) p a (entry out k) (entry row k) (entry pivot k) (y k) (c.at k))
    ∙ total-combine width p a (λ k. entry row k *ℤ y k) (λ k. entry pivot k *ℤ y k)

no_parts : (p a : ℤ) → p *ℤ pos 0 -ℤ a *ℤ pos 0 ≡ pos 0
no_parts p a = omega (arith, ints)

-- what solves the row and the pivot solves the combination
pub solves_after_combining : (width j : ℕ) (y : ℕ → ℤ) (pivot row out : List ℤ) (p a : ℤ) (g : ℕ) → Combination j pivot row out p a g →
    applied width pivot y ≡ pos 0 → applied width row y ≡ pos 0 → applied width out y ≡ pos 0
solves_after_combining width j y pivot row out p a g c hp hr =
    zero_from_product (pos g) _ (omega (arith, ints, c.above_g)) (applied_combining width j y pivot row out p a g c ∙ ap₂ (λ s t. p *ℤ s -ℤ a *ℤ t) hr hp ∙ no_parts p a)

multiple_law : (g s y : ℤ) → (g *ℤ s) *ℤ y ≡ g *ℤ (s *ℤ y)
multiple_law g s y = mul_assocz g s y

-- a list and its part by a divisor have the same solutions
pub applied_multiple : (width : ℕ) (y : ℕ → ℤ) (big small : List ℤ) (g : ℕ) → IsMultiple big small g → applied width big y ≡ pos g *ℤ applied width small y
applied_multiple width y big small g m =
    total-same width _ _ (λ k _. ap (λ t. t *ℤ y k) (m.at k) ∙ multiple_law (pos g) (entry small k) (y k)) ∙ total-scale width (pos g) (λ k. entry small k *ℤ y k)

pub solves_reduced : (width : ℕ) (y : ℕ → ℤ) (row : List ℤ) → applied width row y ≡ pos 0 → applied width (reduced row) y ≡ pos 0
solves_reduced width y row h = let m = reduced_multiple row in
    zero_from_product (pos m.0) _ (omega (arith, ints, m.1.above)) (sym (applied_multiple width y row (reduced row) m.0 m.1) ∙ h)

pub solves_before_reduced : (width : ℕ) (y : ℕ → ℤ) (row : List ℤ) → applied width (reduced row) y ≡ pos 0 → applied width row y ≡ pos 0
solves_before_reduced width y row h = let m = reduced_multiple row in
    applied_multiple width y row (reduced row) m.0 m.1 ∙ ap (λ t. pos m.0 *ℤ t) h ∙ nothing (pos m.0)

-- what solves the pivot and the combination solves the row
pub solves_before_combining : (width j : ℕ) (y : ℕ → ℤ) (pivot row out : List ℤ) (p a : ℤ) (g : ℕ) → Combination j pivot row out p a g →
    applied width pivot y ≡ pos 0 → applied width out y ≡ pos 0 → applied width row y ≡ pos 0
solves_before_combining width j y pivot row out p a g c hp ho =
    let f : ℕ → ℤ = λ k. entry row k *ℤ y k in
    let q : ℕ → ℤ = λ k. entry pivot k *ℤ y k in
    let each_k : (k : ℕ) → pos g *ℤ (entry out k *ℤ y k) ≡ p *ℤ f k -ℤ a *ℤ q k = λ k. scaled_law (pos g) p a (entry out k) (entry row k) (entry pivot k) (y k) (c.at k) in
    let sums : pos g *ℤ applied width out y ≡ p *ℤ applied width row y -ℤ a *ℤ applied width pivot y =
    sym (total-scale width (pos g) (λ k. entry out k *ℤ y k)) ∙ total-same width _ _ (λ k _. each_k k) ∙ total-combine width p a f q in
    zero_from_product p _ c.above_p (sym (one_sided p a (applied width row y)) ∙ ap (λ t. p *ℤ applied width row y -ℤ a *ℤ t) (sym hp) ∙ sym sums ∙ ap (λ t. pos g *ℤ t) ho ∙ nothing (pos g))
