use Rattle.std.proofs.Common.{◌<◌, length, arith}
use Rattle.mp_model.specs.Network.{junction_at}
use Rattle.mp_admit.proofs.RowLemmas.{rowing_more}
use Rattle.mp_admit.proofs.junction.rows.Goals as goal

pub loop-s-preserved : goal.loop-s-preserved
loop-s-preserved c =
    let h : c.loop-s.s < length (junction_at c.args.net.now c.args.j).stages = omega arith in
    rowing_more _ _ _ _ _ _ c.loop-s.invariant h c.stage.ensures c.in_ok-push_row.ensures
