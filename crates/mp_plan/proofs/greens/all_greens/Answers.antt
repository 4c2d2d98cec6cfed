use Rattle.std.proofs.Common.{Global, map, arith}
use Rattle.mp_plan.specs.Ends.{over, rates}
use Rattle.mp_plan.proofs.Greening.{planned_end, planned_more, refused_at}
use Rattle.mp_plan.proofs.greens.all_greens.Goals as goal

pub returns-in-Err : goal.returns-in-Err
returns-in-Err c =
    let net = c.args.net.now in
    refused_at Global Global Global net (rates c.args.flows.now) (over c.args.flows.now) c.args.c c.loop-j.j _ c.loop-j.invariant (omega (arith, c.junctions-j-end.ensures.count, c.loop-j-test.true)) c.in-Err.fault c.in-Err.ensures

pub loop-j-preserved : goal.loop-j-preserved
loop-j-preserved c =
    planned_more c.args.net.now (rates c.args.flows.now) (over c.args.flows.now) c.args.c c.loop-j.j (map (λ row. row.items) c.loop-j.greens.items) _ c.in-Ok.row.items c.loop-j.invariant c.in-Ok.ensures.0 c.in-Ok.ensures.1 c.in_ok-add_row-in-Ok.ensures

pub returns : goal.returns
returns c =
    planned_end c.args.net.now (rates c.args.flows.now) (over c.args.flows.now) c.args.c c.loop-j.j _ c.loop-j.invariant (omega (arith, c.junctions-j-end.ensures.count, c.loop-j-test.false, c.loop-j.auto.j-end))
