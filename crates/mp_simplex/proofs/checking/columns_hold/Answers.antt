use Rattle.std.proofs.Common.{◌≡◌, sym, ◌∙◌, ap, length, FitsSigned, to_z-of_z, Some}
use Rattle.std.specs.Int.{w128}
use Rattle.mp_simplex.specs.Checking.{column_holds, both}
use Rattle.mp_simplex.proofs.SummingLemmas.{Holding, holding_more}
use Rattle.mp_simplex.proofs.checking.columns_hold.Goals as goal

pub loop-k-preserved : goal.loop-k-preserved
loop-k-preserved c =
    let fd : FitsSigned w128 c.args.d = c.ranges.d in
    let s : Holding (column_holds (length c.args.y.now) (length c.args.c.now) c.args.a.now c.args.c.now c.args.y.now c.args.d) (length c.args.c.now) c.loop-k.k c.loop-k.all = simp to_z-of_z at c.loop-k.invariant in
    let e : c.column_holds.result ≡ (column_holds (length c.args.y.now) (length c.args.c.now) c.args.a.now c.args.c.now c.args.y.now c.args.d) c.loop-k.k = simp to_z-of_z at c.column_holds.ensures in
    let b : both (Some c.loop-k.all) ((column_holds (length c.args.y.now) (length c.args.c.now) c.args.a.now c.args.c.now c.args.y.now c.args.d) c.loop-k.k) ≡ Some c.in-Some.next = ap (both (Some c.loop-k.all)) (sym e) ∙ sym c.both.ensures ∙ c.in-Some.is in
    simp to_z-of_z (holding_more (column_holds (length c.args.y.now) (length c.args.c.now) c.args.a.now c.args.c.now c.args.y.now c.args.d) (length c.args.c.now) c.loop-k.k c.loop-k.all c.in-Some.next s c.loop-k-test.true b)
