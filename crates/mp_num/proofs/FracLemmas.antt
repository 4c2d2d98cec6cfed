use Rattle.std.proofs.Common.{◌≡◌, ℕ, zero, suc, ◌*◌, ◌%◌, ◌<◌, ℤ, pos, negsuc, ◌≤ℤ◌, ◌*ℤ◌, ap, sym, ◌∙◌, subst, arith, unsigned_abs, int_div}
use Prim.Native.Nat.{◌∣◌}
use Rattle.std.specs.Int.{IsGcd}
use Rattle.std.proofs.lemmas.Int.{ints, quot-rem, unsigned_abs-mul}
use Rattle.std.proofs.Math.Nat.{mul-dvd-mul_left, dvd_of_mul-dvd-mul_left, eq-one_of_dvd-one, mul-one}
use Rattle.mp_num.specs.Divisor.{gcd_of}
use Rattle.mp_num.specs.Fraction.{IsLowest}
use Rattle.mp_num.proofs.DivisorLemmas.{IsGcd-gcd_of}
use Rattle.mp_num.proofs.Ring.{diff_of, differences, diff-eq}
use Rattle.std.proofs.lemmas.Nat.Gcd.{mod-eq-zero_of_dvd}

-- two numbers divided by their greatest common divisor have none but 1
pub gcd_of-divided : (a b x y g : ℕ) → IsGcd a b g → 0 < g → a ≡ g * x → b ≡ g * y → gcd_of x y ≡ 1
gcd_of-divided a b x y g h l ea eb =
    let d : ℕ = gcd_of x y in
    let i = IsGcd-gcd_of x y in
    let da : g * d ∣ a = subst (λ (n : ℕ). g * d ∣ n) (sym ea) (mul-dvd-mul_left d g i.0) in
    let db : g * d ∣ b = subst (λ (n : ℕ). g * d ∣ n) (sym eb) (mul-dvd-mul_left d g i.1) in
    let all : g * d ∣ g * 1 = subst (λ (n : ℕ). g * d ∣ n) (sym (mul-one g)) (h.2 (g * d) da db) in
    eq-one_of_dvd-one (dvd_of_mul-dvd-mul_left d l all)

pub divides_exactly : (a : ℤ) (g : ℕ) → g ∣ unsigned_abs a → a ≡ pos g *ℤ int_div a (pos g)
divides_exactly (pos a) g d = let e : a % g ≡ 0 = mod-eq-zero_of_dvd g d in let q = quot-rem (pos a) (pos g) in omega (arith, ints, q, e)
divides_exactly (negsuc a) g d = let e : suc a % g ≡ 0 = mod-eq-zero_of_dvd g d in let q = quot-rem (negsuc a) (pos g) in omega (arith, ints, q, e)

positive_part : (g : ℕ) (d y : ℤ) → pos 1 ≤ℤ d → d ≡ pos g *ℤ y → (pos 1 ≤ℤ y) × (0 < g)
positive_part zero d y h e = absurd (omega (arith, ints, e))
positive_part (suc g) d (pos zero) h e = absurd (omega (arith, ints, e))
positive_part (suc g) d (pos (suc n)) h e = (omega (arith, ints), omega arith)
positive_part (suc g) d (negsuc n) h e = absurd (omega (arith, ints, e))

cross_law : (g x y : ℤ) → x *ℤ (g *ℤ y) ≡ (g *ℤ x) *ℤ y
cross_law g x y = rw (diff_of g, diff_of x, diff_of y) (simp differences (diff-eq _ _ _ _ (omega arith)))

-- the lowest terms x over y of n over d
pub record IsLowestOf (n d x y : ℤ) : Type 0 where
  pub lowest : IsLowest x y
  pub same : x *ℤ d ≡ n *ℤ y

pub lowest_terms_of : (n d : ℤ) → pos 1 ≤ℤ d →
    IsLowestOf n d (int_div n (pos (gcd_of (unsigned_abs d) (unsigned_abs n)))) (int_div d (pos (gcd_of (unsigned_abs d) (unsigned_abs n))))
lowest_terms_of n d h =
    let g : ℕ = gcd_of (unsigned_abs d) (unsigned_abs n) in
    let i = IsGcd-gcd_of (unsigned_abs d) (unsigned_abs n) in
    let x : ℤ = int_div n (pos g) in
    let y : ℤ = int_div d (pos g) in
    let en : n ≡ pos g *ℤ x = divides_exactly n g i.1 in
    let ed : d ≡ pos g *ℤ y = divides_exactly d g i.0 in
    let p = positive_part g d y h ed in
    record {
      lowest = record {
        positive = p.0;
        lowest = gcd_of-divided (unsigned_abs d) (unsigned_abs n) (unsigned_abs y) (unsigned_abs x) g i p.1 (ap unsigned_abs ed ∙ unsigned_abs-mul (pos g) y) (ap unsigned_abs en ∙ unsigned_abs-mul (pos g) x);
      };
      same = ap (λ t. x *ℤ t) ed ∙ cross_law (pos g) x y ∙ ap (λ t. t *ℤ y) (sym en);
    }
