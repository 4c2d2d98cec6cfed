use Rattle.std.proofs.Common.{arith, ◌≡◌, ◌∙◌, ap, ap₂, unsigned_abs, pos, FitsSigned, to_z-of_z}
use Prim.Native.Nat.{◌∣◌}
use Rattle.std.specs.Int.{w128}
use Rattle.std.proofs.lemmas.Int.{ints, to_z_pos}
use Rattle.mp_num.specs.Divisor.{gcd_of}
use Rattle.mp_num.proofs.rows.common_divisor.Goals as goal
use Rattle.mp_num.proofs.DivisionLemmas.{common_range}

pub overflow_cast-result : goal.overflow_cast-result
overflow_cast-result c =
    let fp : FitsSigned w128 c.args.p = c.ranges.p in
    let e : c.unsigned_abs.result ≡ unsigned_abs c.args.p = simp to_z-of_z at c.unsigned_abs.ensures.value in
    let d : c.gcd.result ∣ unsigned_abs c.args.p = rw e at c.gcd.ensures.greatest.0 in
    let r = common_range c.args.p c.gcd.result fp c.requires d in
    omega (arith, ints, r)

pub returns-clause-value : goal.returns-clause-value
returns-clause-value c =
    let fp : FitsSigned w128 c.args.p = c.ranges.p in
    let fa : FitsSigned w128 c.args.a = c.ranges.a in
    let e : c.unsigned_abs.result ≡ unsigned_abs c.args.p = simp to_z-of_z at c.unsigned_abs.ensures.value in
    let ea : c.unsigned_abs-2.result ≡ unsigned_abs c.args.a = simp to_z-of_z at c.unsigned_abs-2.ensures.value in
    let d : c.gcd.result ∣ unsigned_abs c.args.p = rw e at c.gcd.ensures.greatest.0 in
    let r = common_range c.args.p c.gcd.result fp c.requires d in
    to_z_pos w128 c.gcd.result r.1 ∙ ap pos (c.gcd.ensures.value ∙ ap₂ gcd_of e ea)

pub returns-clause-positive : goal.returns-clause-positive
returns-clause-positive c =
    let fp : FitsSigned w128 c.args.p = c.ranges.p in
    let e : c.unsigned_abs.result ≡ unsigned_abs c.args.p = simp to_z-of_z at c.unsigned_abs.ensures.value in
    let d : c.gcd.result ∣ unsigned_abs c.args.p = rw e at c.gcd.ensures.greatest.0 in
    let r = common_range c.args.p c.gcd.result fp c.requires d in
    rw (to_z_pos w128 c.gcd.result r.1) (omega (arith, ints, r))
