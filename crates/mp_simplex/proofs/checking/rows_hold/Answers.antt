use Rattle.std.proofs.Common.{◌≡◌, sym, ◌∙◌, ap, length, FitsSigned, to_z-of_z, Some}
use Rattle.std.specs.Int.{w128}
use Rattle.mp_simplex.specs.Checking.{row_holds, both}
use Rattle.mp_simplex.proofs.SummingLemmas.{Holding, holding_more}
use Rattle.mp_simplex.proofs.checking.rows_hold.Goals as goal

pub loop-i-preserved : goal.loop-i-preserved
loop-i-preserved c =
    let fd : FitsSigned w128 c.args.d = c.ranges.d in
    let s : Holding (row_holds (length c.args.x.now) c.args.a.now c.args.b.now c.args.x.now c.args.d) (length c.args.b.now) c.loop-i.i c.loop-i.all = simp to_z-of_z at c.loop-i.invariant in
    let e : c.row_holds.result ≡ (row_holds (length c.args.x.now) c.args.a.now c.args.b.now c.args.x.now c.args.d) c.loop-i.i = simp to_z-of_z at c.row_holds.ensures in
    let b : both (Some c.loop-i.all) ((row_holds (length c.args.x.now) c.args.a.now c.args.b.now c.args.x.now c.args.d) c.loop-i.i) ≡ Some c.in-Some.next = ap (both (Some c.loop-i.all)) (sym e) ∙ sym c.both.ensures ∙ c.in-Some.is in
    simp to_z-of_z (holding_more (row_holds (length c.args.x.now) c.args.a.now c.args.b.now c.args.x.now c.args.d) (length c.args.b.now) c.loop-i.i c.loop-i.all c.in-Some.next s c.loop-i-test.true b)
