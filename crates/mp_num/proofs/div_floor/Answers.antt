use Rattle.std.proofs.Common.{rules, to_z-of_z, FitsSigned, ◌≡◌}
use Rattle.std.specs.Int.{w128, int_div_euclid}
use Rattle.mp_num.proofs.DivisorLemmas.{div_euclid_at_most, div_euclid_next}
use Rattle.mp_num.proofs.div_floor.Goals as goal

pub returns-clause-at_most : goal.returns-clause-at_most
returns-clause-at_most c =
    let f : FitsSigned w128 c.div_euclid.result = search rules in
    let fa : FitsSigned w128 c.args.a = c.ranges.a in
    let fb : FitsSigned w128 c.args.b = c.ranges.b in
    let e : c.div_euclid.result ≡ int_div_euclid c.args.a c.args.b = simp to_z-of_z at c.div_euclid.ensures in
    simp to_z-of_z (rw e (div_euclid_at_most c.args.a c.args.b c.requires))

pub returns-clause-next_above : goal.returns-clause-next_above
returns-clause-next_above c =
    let f : FitsSigned w128 c.div_euclid.result = search rules in
    let fa : FitsSigned w128 c.args.a = c.ranges.a in
    let fb : FitsSigned w128 c.args.b = c.ranges.b in
    let e : c.div_euclid.result ≡ int_div_euclid c.args.a c.args.b = simp to_z-of_z at c.div_euclid.ensures in
    simp to_z-of_z (rw e (div_euclid_next c.args.a c.args.b c.requires))
