use Rattle.std.proofs.Common.{rules, sym, ◌∙◌, length, FitsSigned, to_z-of_z}
use Rattle.std.specs.Int.{w128}
use Rattle.mp_simplex.proofs.SummingLemmas.{value_is}
use Rattle.mp_simplex.proofs.checking.has_value.Goals as goal

pub returns : goal.returns
returns c =
    let fs : FitsSigned w128 c.in_ok-dot.field-0 = search rules in
    let fd : FitsSigned w128 c.args.d = c.ranges.d in
    let fn : FitsSigned w128 c.args.num = c.ranges.num in
    let fe : FitsSigned w128 c.args.den = c.ranges.den in
    (simp to_z-of_z at c.same_products.ensures) ∙ sym (value_is (length c.args.x.now) c.args.c.now c.args.x.now c.args.d c.args.num c.args.den c.in_ok-dot.field-0 (sym c.in_ok-dot.ensures))
