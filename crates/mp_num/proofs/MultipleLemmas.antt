use Rattle.std.proofs.lemmas.Int.{unsigned_abs-mul}
use Prim.Native.Nat.{◌∣◌}
use Rattle.std.proofs.Math.Nat.{dvd-mul_right, dvd-mul_left}
use Rattle.std.proofs.Common.{negsuc}
use Rattle.mp_num.proofs.Ring.{diff_of, differences, diff-eq}
use Rattle.std.proofs.Common.{◌≡◌, ◌≢◌, ℕ, zero, suc, ◌+◌, ◌-◌, ◌*◌, ◌/◌, ◌%◌, ◌<◌, ◌≤◌, List, [], ◌∷◌, ◌++◌, length, take, drop, get_or, Option, Some, None, option_map, option_and_then, ℤ, pos, ◌*ℤ◌, ◌≤ℤ◌, ◌<ℤ◌, refl, ap, ap₂, sym, ◌∙◌, subst, arith, to_z-of_z, unsigned_abs, int_div}
use Rattle.std.proofs.lemmas.Int.{ints}
use Rattle.mp_num.specs.Divisor.{gcd_of}
use Rattle.mp_num.proofs.DivisorLemmas.{IsGcd-gcd_of}
use Rattle.mp_num.proofs.CheckedLemmas.{within_some}
use Rattle.std.proofs.lemmas.Int.{to_z_pos}
use Rattle.mp_num.specs.Multiple.{lcm_of}
use Rattle.mp_num.proofs.FracLemmas.{divides_exactly}
use Rattle.mp_num.proofs.RowLemmas.{positive_factor, positive_product}
use Rattle.mp_num.proofs.DivisionLemmas.{quotient_is}

pub lcm_positive : (a b e : ℤ) → pos 1 ≤ℤ a → pos 1 ≤ℤ b → lcm_of a b ≡ Some e → pos 1 ≤ℤ e
unfolding lcm_of
lcm_positive a b e h l v =
    let g : ℕ = gcd_of (unsigned_abs a) (unsigned_abs b) in
    let whole : a ≡ pos g *ℤ int_div a (pos g) = divides_exactly a g (IsGcd-gcd_of (unsigned_abs a) (unsigned_abs b)).0 in
    let part : pos 1 ≤ℤ int_div a (pos g) = positive_factor g _ (subst (λ (t : ℤ). pos 1 ≤ℤ t) whole h) in
    subst (λ (t : ℤ). pos 1 ≤ℤ t) (sym (within_some _ e v)) (positive_product _ b part l)

cross_law : (g x y : ℤ) → x *ℤ (g *ℤ y) ≡ (g *ℤ x) *ℤ y
cross_law g x y = rw (diff_of g, diff_of x, diff_of y) (simp differences (diff-eq _ _ _ _ (omega arith)))

pub lcm_divides : (a b e : ℤ) → lcm_of a b ≡ Some e → (unsigned_abs a ∣ unsigned_abs e) × (unsigned_abs b ∣ unsigned_abs e)
unfolding lcm_of
lcm_divides a b e v =
    let g : ℕ = gcd_of (unsigned_abs a) (unsigned_abs b) in
    let i = IsGcd-gcd_of (unsigned_abs a) (unsigned_abs b) in
    let x : ℤ = int_div a (pos g) in
    let y : ℤ = int_div b (pos g) in
    let ea : a ≡ pos g *ℤ x = divides_exactly a g i.0 in
    let eb : b ≡ pos g *ℤ y = divides_exactly b g i.1 in
    let value : e ≡ x *ℤ b = within_some _ e v in
    let by_a : e ≡ a *ℤ y = value ∙ ap (λ t. x *ℤ t) eb ∙ cross_law (pos g) x y ∙ ap (λ t. t *ℤ y) (sym ea) in (
      subst (λ (m : ℕ). unsigned_abs a ∣ m) (sym (ap unsigned_abs by_a ∙ unsigned_abs-mul a y)) (dvd-mul_right (unsigned_abs a) (unsigned_abs y)),
      subst (λ (m : ℕ). unsigned_abs b ∣ m) (sym (ap unsigned_abs value ∙ unsigned_abs-mul x b)) (dvd-mul_left (unsigned_abs b) (unsigned_abs x)),
    )

pub quotient_of : (d p : ℤ) → pos 1 ≤ℤ p → unsigned_abs p ∣ unsigned_abs d → d ≡ p *ℤ int_div d p
quotient_of d (pos n) h l = divides_exactly d n l
quotient_of d (negsuc n) h l = absurd (omega (arith, ints))

pub ruleset multiples = (quotient_is, to_z-of_z, to_z_pos, lcm_positive)
