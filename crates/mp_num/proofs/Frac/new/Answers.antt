use Rattle.std.proofs.Common.{rules, ◌≡◌, ◌∙◌, sym, ap, subst₂, FitsSigned, to_z-of_z, int_div, pos, unsigned_abs, ℤ}
use Rattle.std.specs.Int.{w128}
use Rattle.mp_num.specs.Divisor.{gcd_of}
use Rattle.mp_num.proofs.FracLemmas.{IsLowestOf, lowest_terms_of}
use Rattle.mp_num.proofs.Frac.new.Goals as goal

made : (n d x y : ℤ) (g : ℤ) → IsLowestOf n d (int_div n (pos (gcd_of (unsigned_abs d) (unsigned_abs n)))) (int_div d (pos (gcd_of (unsigned_abs d) (unsigned_abs n)))) →
    g ≡ pos (gcd_of (unsigned_abs d) (unsigned_abs n)) → x ≡ int_div n g → y ≡ int_div d g → IsLowestOf n d x y
made n d x y g l e ex ey = subst₂ (λ x y. IsLowestOf n d x y) (sym (ex ∙ ap (int_div n) e)) (sym (ey ∙ ap (int_div d) e)) l

pub invariant_of-result : goal.invariant_of-result
invariant_of-result c =
    let fn : FitsSigned w128 c.args.num = c.ranges.num in
    let fd : FitsSigned w128 c.args.den = c.ranges.den in
    let fg : FitsSigned w128 c.common_divisor-common.result = search rules in
    let fx : FitsSigned w128 c.quotient.result = search rules in
    let fy : FitsSigned w128 c.quotient-2.result = search rules in
    let l : IsLowestOf c.args.num c.args.den c.quotient.result c.quotient-2.result = made _ _ _ _ c.common_divisor-common.result (lowest_terms_of c.args.num c.args.den c.requires)
    (simp to_z-of_z at c.common_divisor-common.ensures.value) (simp to_z-of_z at c.quotient.ensures) (simp to_z-of_z at c.quotient-2.ensures) in
    simp to_z-of_z l.lowest

pub returns-clause-lowest : goal.returns-clause-lowest
returns-clause-lowest c =
    let fn : FitsSigned w128 c.args.num = c.ranges.num in
    let fd : FitsSigned w128 c.args.den = c.ranges.den in
    let fg : FitsSigned w128 c.common_divisor-common.result = search rules in
    let fx : FitsSigned w128 c.quotient.result = search rules in
    let fy : FitsSigned w128 c.quotient-2.result = search rules in
    let l : IsLowestOf c.args.num c.args.den c.quotient.result c.quotient-2.result = made _ _ _ _ c.common_divisor-common.result (lowest_terms_of c.args.num c.args.den c.requires)
    (simp to_z-of_z at c.common_divisor-common.ensures.value) (simp to_z-of_z at c.quotient.ensures) (simp to_z-of_z at c.quotient-2.ensures) in
    simp to_z-of_z l.lowest

pub returns-clause-same : goal.returns-clause-same
returns-clause-same c =
    let fn : FitsSigned w128 c.args.num = c.ranges.num in
    let fd : FitsSigned w128 c.args.den = c.ranges.den in
    let fg : FitsSigned w128 c.common_divisor-common.result = search rules in
    let fx : FitsSigned w128 c.quotient.result = search rules in
    let fy : FitsSigned w128 c.quotient-2.result = search rules in
    let l : IsLowestOf c.args.num c.args.den c.quotient.result c.quotient-2.result = made _ _ _ _ c.common_divisor-common.result (lowest_terms_of c.args.num c.args.den c.requires)
    (simp to_z-of_z at c.common_divisor-common.ensures.value) (simp to_z-of_z at c.quotient.ensures) (simp to_z-of_z at c.quotient-2.ensures) in
    simp to_z-of_z l.same
