use Rattle.std.proofs.Common.{Global}
use Rattle.mp_flow.specs.Calculating.{flows_of}
use Rattle.mp_plan.proofs.Planning.{bounds_refused, made}
use Rattle.mp_plan.proofs.making.make.Goals as goal

pub returns-in-Ok-all_bounds-clause-plan : goal.returns-in-Ok-all_bounds-clause-plan
returns-in-Ok-all_bounds-clause-plan c =
    let it = made c.args.net.now (flows_of c.in-Ok.flows) c.args.c _ _ c.new.result c.new.ensures (record { no_cycle = c.in_default.ensures; found = c.in-Ok.ensures.0 }) c.in-Ok.ensures.1 c.requires.0 c.in-Ok-all_greens.ensures.0 c.in-Ok-all_greens.ensures.1
    c.in-Ok-all_bounds.ensures.0 c.in-Ok-all_bounds.ensures.1 in
    it.on

pub returns-in-Ok-all_bounds-clause-stated : goal.returns-in-Ok-all_bounds-clause-stated
returns-in-Ok-all_bounds-clause-stated c =
    let it = made c.args.net.now (flows_of c.in-Ok.flows) c.args.c _ _ c.new.result c.new.ensures (record { no_cycle = c.in_default.ensures; found = c.in-Ok.ensures.0 }) c.in-Ok.ensures.1 c.requires.0 c.in-Ok-all_greens.ensures.0 c.in-Ok-all_greens.ensures.1
    c.in-Ok-all_bounds.ensures.0 c.in-Ok-all_bounds.ensures.1 in
    it.stated

pub returns-clause-refused : goal.returns-clause-refused
returns-clause-refused c =
    bounds_refused Global c.args.net.now (flows_of c.in-Ok.flows) c.args.c (record { no_cycle = c.in_default.ensures; found = c.in-Ok.ensures.0 }) c.in-Ok-all_greens.ensures.1 c.in-Err-all_bounds.fault c.in-Err-all_bounds.ensures
