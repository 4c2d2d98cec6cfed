use Rattle.std.proofs.Common.{◌≡◌, ◌+◌, ◌∙◌, Some, None, option_map, vec_items, length, sym, ap, arith}
use Rattle.mp_verdict.proofs.FlowNumbers.{above_one}
use Rattle.mp_plan.specs.Ends.{over, rates}
use Rattle.mp_plan.specs.Stated.{stated_bounds}
use Rattle.mp_plan.proofs.Bounding.{forming_beyond, forming_ends, forming_fails, forming_more, unit_some}
use Rattle.mp_plan.proofs.bounds.all_bounds.Goals as goal

pub returns-in_default : goal.returns-in_default
returns-in_default c =
    let net = c.args.net.now in
    let passes : stated_bounds net (rates c.args.flows.now) (over c.args.flows.now) c.args.c c.loop-turn.bounds.items ≡ None =
    ap (stated_bounds net (rates c.args.flows.now) (over c.args.flows.now) c.args.c) (sym c.deref.ensures.value) ∙ sym c.in_ok-next.ensures ∙ ap (option_map vec_items) c.in_default.is in
    forming_fails net (rates c.args.flows.now) (over c.args.flows.now) c.args.c c.requires.acceptable.network c.requires.no_cycle (unit_some net c.requires.acceptable.network (over c.args.flows.now) (above_one _ c.requires.flows.denominator))
    c.loop-turn._turn c.loop-turn.bounds.items c.loop-turn.invariant passes

pub loop-turn-preserved : goal.loop-turn-preserved
loop-turn-preserved c =
    let net = c.args.net.now in
    let stated : stated_bounds net (rates c.args.flows.now) (over c.args.flows.now) c.args.c c.loop-turn.bounds.items ≡ Some c.in-Some.next.items =
    ap (stated_bounds net (rates c.args.flows.now) (over c.args.flows.now) c.args.c) (sym c.deref.ensures.value) ∙ sym c.in_ok-next.ensures ∙ ap (option_map vec_items) c.in-Some.is in
    forming_more net (rates c.args.flows.now) (over c.args.flows.now) c.args.c c.loop-turn._turn c.loop-turn.bounds.items c.in-Some.next.items c.loop-turn.invariant stated

pub returns-in-Some-2 : goal.returns-in-Some-2
returns-in-Some-2 c =
    let net = c.args.net.now in
    let stated : stated_bounds net (rates c.args.flows.now) (over c.args.flows.now) c.args.c c.loop-turn.bounds.items ≡ Some c.in-Some-2.settled.items =
    ap (stated_bounds net (rates c.args.flows.now) (over c.args.flows.now) c.args.c) (sym c.deref-2.ensures.value) ∙ sym c.in_ok-settled.ensures ∙ ap (option_map vec_items) c.in-Some-2.is in
    let last : c.loop-turn._turn ≡ length net.links + 2 = omega (arith, c.links-turn-end.ensures.count, c.loop-turn-test.false, c.loop-turn.auto._turn-end) in
    forming_ends net (rates c.args.flows.now) (over c.args.flows.now) c.args.c c.requires.acceptable.network c.requires.no_cycle c.loop-turn._turn c.loop-turn.bounds.items c.in-Some-2.settled.items c.loop-turn.invariant last stated

pub returns : goal.returns
returns c =
    let net = c.args.net.now in
    let passes : stated_bounds net (rates c.args.flows.now) (over c.args.flows.now) c.args.c c.loop-turn.bounds.items ≡ None =
    ap (stated_bounds net (rates c.args.flows.now) (over c.args.flows.now) c.args.c) (sym c.deref-2.ensures.value) ∙ sym c.in_ok-settled.ensures ∙ ap (option_map vec_items) c.in-None.is in
    let last : c.loop-turn._turn ≡ length net.links + 2 = omega (arith, c.links-turn-end.ensures.count, c.loop-turn-test.false, c.loop-turn.auto._turn-end) in
    forming_beyond net (rates c.args.flows.now) (over c.args.flows.now) c.args.c c.requires.acceptable.network c.requires.no_cycle c.loop-turn._turn c.loop-turn.bounds.items c.loop-turn.invariant last passes
