use Rattle.std.proofs.Common.{rules, ◌≡◌, ◌∙◌, ap, ap₂, length, FitsSigned, to_z-of_z}
use Rattle.std.specs.Int.{w128}
use Rattle.mp_simplex.specs.Checking.{both, row_holds, column_holds, all_hold, has_value, none_negative}
use Rattle.mp_simplex.proofs.CheckingLemmas.{checked_by, check_means}
use Rattle.mp_simplex.proofs.check_optimum.Goals as goal

calculation : goal.returns-clause-calculation
calculation c =
    let lp = c.args.lp.now in
    let o = c.args.optimum.now in
    let fd : FitsSigned w128 o.primal_den = search rules in
    let fe : FitsSigned w128 o.dual_den = search rules in
    let fn : FitsSigned w128 o.value.num = search rules in
    let fv : FitsSigned w128 o.value.den = search rules in
    let ea = c.as_slice-a.ensures in
    let eb = c.as_slice-b.ensures in
    let ec = c.as_slice-c.ensures in
    let ex = c.as_slice-primal.ensures in
    let ey = c.as_slice-dual.ensures in
    let en = c.num-num.ensures.value in
    let ev = c.den-den.ensures.value in
    let m : length lp.b ≡ lp.rows = c.requires.sizes.right_sides in
    let n : length lp.c ≡ lp.cols = c.requires.sizes.objective in
    let lx : length o.primal ≡ lp.cols = c.requires.sides.primal in
    let ly : length o.dual ≡ lp.rows = c.requires.sides.dual in
    let rows : c.rows_hold-rows.result ≡ all_hold (row_holds lp.cols lp.a lp.b o.primal o.primal_den) lp.rows = simp (to_z-of_z, ea, eb, ex, m, lx) at c.rows_hold-rows.ensures in
    let columns : c.columns_hold-columns.result ≡ all_hold (column_holds lp.rows lp.cols lp.a lp.c o.dual o.dual_den) lp.cols = simp (to_z-of_z, ea, ec, ey, n, ly) at c.columns_hold-columns.ensures in
    let first : c.has_value-primal_value.result ≡ has_value lp.cols lp.c o.primal o.primal_den o.value.num o.value.den = simp (to_z-of_z, ec, ex, en, ev, lx) at c.has_value-primal_value.ensures in
    let second : c.has_value-dual_value.result ≡ has_value lp.rows lp.b o.dual o.dual_den o.value.num o.value.den = simp (to_z-of_z, eb, ey, en, ev, ly) at c.has_value-dual_value.ensures in
    let px : c.none_negative.result ≡ none_negative o.primal = c.none_negative.ensures ∙ ap none_negative ex in
    let py : c.none_negative-2.result ≡ none_negative o.dual = c.none_negative-2.ensures ∙ ap none_negative ey in
    c.both-2.ensures ∙ ap₂ both c.both-sides.ensures (c.both.ensures ∙ ap₂ both c.both-values.ensures c.both-signs.ensures)
    ∙ checked_by lp o c.rows_hold-rows.result c.columns_hold-columns.result c.has_value-primal_value.result c.has_value-dual_value.result c.none_negative.result c.none_negative-2.result rows columns first second px py

pub returns-clause-calculation : goal.returns-clause-calculation
returns-clause-calculation c = calculation c

pub returns-clause-meaning : goal.returns-clause-meaning
returns-clause-meaning c = check_means c.args.lp.now c.args.optimum.now c.both-2.result c.requires.sides c.num-num.ensures.lowest.positive (calculation c)
