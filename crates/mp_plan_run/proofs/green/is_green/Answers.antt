use Rattle.std.proofs.Common.{◌-◌, arith, ap, slice_index_or}
use Rattle.mp_plan_run.proofs.GreenLemmas.{stage_there}
use Rattle.mp_plan_run.proofs.green.is_green.Goals as goal

pub holds-requires-clause-stage : goal.holds-requires-clause-stage
holds-requires-clause-stage c =
    let there = stage_there c.args.net.now c.args.stages.now c.requires.running c.junction_of-j.result c.junction_of-j.ensures.known.0 c.junction_of-j.ensures.known.1 in
    let read = ap (λ n. slice_index_or c.args.stages.now (n - 1) 0) c.from.ensures in
    (omega (arith, c.if-s-eq0.false), omega (arith, read, there))
