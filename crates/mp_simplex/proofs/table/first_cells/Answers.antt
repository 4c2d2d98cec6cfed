use Rattle.std.proofs.Common.{◌≡◌, ◌+◌, Some, arith, ap, ◌∙◌, length, ◌<◌}
use Rattle.mp_num.proofs.PassingLemmas.{before}
use Rattle.mp_simplex.specs.Outcome.{first_row}
use Rattle.mp_simplex.proofs.TableLemmas.{stacking_more, becomes_goes}
use Rattle.mp_simplex.proofs.table.first_cells.Goals as goal

pub loop-r-preserved : goal.loop-r-preserved
loop-r-preserved c =
    let lp = c.args.lp.now in
    let height : length c.as_slice.result.now ≡ lp.rows = ap length c.as_slice.ensures ∙ c.requires.sizes.right_sides in
    let inside : c.loop-r.r < 1 + lp.rows = omega (arith, height, c.loop-r-test.true) in
    let grown : before c.loop-r.cells.items (first_row lp.rows lp.cols lp.a lp.b lp.c c.loop-r.r) ≡ Some c.push_row.new.cells.items = becomes_goes _ _ _ c.if-not-branch.false c.in_ok-push_row.ensures in
    stacking_more lp.rows lp.cols lp.a lp.b lp.c (1 + lp.rows) c.args.width c.loop-r.r c.loop-r.cells.items c.push_row.new.cells.items c.loop-r.invariant inside c.requires.wide grown
