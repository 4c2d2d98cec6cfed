use Rattle.std.proofs.Common.{rules, to_z, of_z, to_z-of_z, FitsSigned, ◌≡◌, ◌≢◌, ◌+ℤ◌, pos, arith, sym, ap, ◌∙◌}
use Rattle.std.specs.Int.{w128, int_div_euclid, int_rem_euclid}
use Rattle.std.proofs.lemmas.Int.{ints}
use Rattle.mp_num.proofs.CeilingLemmas.{ceiling_exact, ceiling_above}
use Rattle.mp_num.proofs.div_ceil.Goals as goal

pub returns-then-rem_euclid-eq0-clause-at_least : goal.returns-then-rem_euclid-eq0-clause-at_least
returns-then-rem_euclid-eq0-clause-at_least c =
    let f : FitsSigned w128 c.div_euclid-floor.result = search rules in
    let fa : FitsSigned w128 c.args.a = c.ranges.a in
    let fb : FitsSigned w128 c.args.b = c.ranges.b in
    let fr : FitsSigned w128 c.rem_euclid.result = search rules in
    let e : c.div_euclid-floor.result ≡ int_div_euclid c.args.a c.args.b = simp to_z-of_z at c.div_euclid-floor.ensures in
    let r : c.rem_euclid.result ≡ int_rem_euclid c.args.a c.args.b = simp to_z-of_z at c.rem_euclid.ensures.value in
    let none : c.rem_euclid.result ≡ pos 0 = sym (to_z-of_z fr) ∙ ap (to_z w128) c.if-rem_euclid-eq0.true in
    simp to_z-of_z (rw e ((ceiling_exact c.args.a c.args.b c.requires (sym r ∙ none)).at_least))

pub returns-then-rem_euclid-eq0-clause-last_below : goal.returns-then-rem_euclid-eq0-clause-last_below
returns-then-rem_euclid-eq0-clause-last_below c =
    let f : FitsSigned w128 c.div_euclid-floor.result = search rules in
    let fa : FitsSigned w128 c.args.a = c.ranges.a in
    let fb : FitsSigned w128 c.args.b = c.ranges.b in
    let fr : FitsSigned w128 c.rem_euclid.result = search rules in
    let e : c.div_euclid-floor.result ≡ int_div_euclid c.args.a c.args.b = simp to_z-of_z at c.div_euclid-floor.ensures in
    let r : c.rem_euclid.result ≡ int_rem_euclid c.args.a c.args.b = simp to_z-of_z at c.rem_euclid.ensures.value in
    let none : c.rem_euclid.result ≡ pos 0 = sym (to_z-of_z fr) ∙ ap (to_z w128) c.if-rem_euclid-eq0.true in
    simp to_z-of_z (rw e ((ceiling_exact c.args.a c.args.b c.requires (sym r ∙ none)).last_below))

pub returns-else-rem_euclid-eq0-clause-at_least : goal.returns-else-rem_euclid-eq0-clause-at_least
returns-else-rem_euclid-eq0-clause-at_least c =
    let f : FitsSigned w128 c.div_euclid-floor.result = search rules in
    let fa : FitsSigned w128 c.args.a = c.ranges.a in
    let fb : FitsSigned w128 c.args.b = c.ranges.b in
    let fr : FitsSigned w128 c.rem_euclid.result = search rules in
    let e : c.div_euclid-floor.result ≡ int_div_euclid c.args.a c.args.b = simp to_z-of_z at c.div_euclid-floor.ensures in
    let r : c.rem_euclid.result ≡ int_rem_euclid c.args.a c.args.b = simp to_z-of_z at c.rem_euclid.ensures.value in
    let some : int_rem_euclid c.args.a c.args.b ≢ pos 0 = λ z. c.if-rem_euclid-eq0.false (ap (of_z w128) (r ∙ z)) in
    let fs : FitsSigned w128 (c.div_euclid-floor.result +ℤ pos 1) = grind (arith, ints, fa, fb, e, c.requires, some) in
    simp to_z-of_z (rw e ((ceiling_above c.args.a c.args.b c.requires some).at_least))

pub returns-else-rem_euclid-eq0-clause-last_below : goal.returns-else-rem_euclid-eq0-clause-last_below
returns-else-rem_euclid-eq0-clause-last_below c =
    let f : FitsSigned w128 c.div_euclid-floor.result = search rules in
    let fa : FitsSigned w128 c.args.a = c.ranges.a in
    let fb : FitsSigned w128 c.args.b = c.ranges.b in
    let fr : FitsSigned w128 c.rem_euclid.result = search rules in
    let e : c.div_euclid-floor.result ≡ int_div_euclid c.args.a c.args.b = simp to_z-of_z at c.div_euclid-floor.ensures in
    let r : c.rem_euclid.result ≡ int_rem_euclid c.args.a c.args.b = simp to_z-of_z at c.rem_euclid.ensures.value in
    let some : int_rem_euclid c.args.a c.args.b ≢ pos 0 = λ z. c.if-rem_euclid-eq0.false (ap (of_z w128) (r ∙ z)) in
    let fs : FitsSigned w128 (c.div_euclid-floor.result +ℤ pos 1) = grind (arith, ints, fa, fb, e, c.requires, some) in
    simp to_z-of_z (rw e ((ceiling_above c.args.a c.args.b c.requires some).last_below))
