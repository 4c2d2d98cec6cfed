use Rattle.std.proofs.Common.{◌≡◌, ℕ, ◌+◌, ◌-◌, ◌∙◌, List, [], ◌∷◌, ◌++◌, length, arith, ap, ap₂, rules, sym}
use Rattle.std.proofs.lemmas.List.FromFn.{length-map-range_with_len, map-range_with_len_more}
use Rattle.mp_model.specs.Plans.{running}
use Rattle.mp_plan_run.proofs.GreenLemmas.{greens_few, greens_fit, junction_count}
use Rattle.mp_plan_run.proofs.green.list_running.Goals as goal

pub running-requires-clause-cycle : goal.running-requires-clause-cycle
running-requires-clause-cycle c = c.requires.plan.is.cycle

pub running-requires-clause-known : goal.running-requires-clause-known
running-requires-clause-known c = (omega arith, omega (arith, junction_count c.args.net.now c.args.plan.now c.requires.plan))

pub running-requires-clause-few : goal.running-requires-clause-few
running-requires-clause-few c = greens_few c.args.net.now c.args.plan.now c.requires.plan c.shares.ensures.acceptable (c.loop-i.i + 1)

pub running-requires-clause-fit : goal.running-requires-clause-fit
running-requires-clause-fit c = greens_fit c.args.net.now c.args.plan.now c.requires.plan (c.loop-i.i + 1)

pub push-requires : goal.push-requires
push-requires c =
    let size = ap (λ (stages : List ℕ). length stages) c.loop-i.invariant ∙ length-map-range_with_len (λ j. running c.args.plan.now j (c.args.period - 1)) 1 c.loop-i.i in
    (omega arith, omega (arith, size, c.loop-i-test.true, c.junctions-i-end.ensures.few))

pub loop-i-preserved : goal.loop-i-preserved
loop-i-preserved c =
    let i = c.loop-i.i in
    let ran : c.running.result ≡ running c.args.plan.now (i + 1) (c.args.period - 1) = search rules in
    c.push.ensures.items ∙ ap₂ (λ xs s. xs ++ s ∷ []) c.loop-i.invariant ran ∙ sym (map-range_with_len_more (λ j. running c.args.plan.now j (c.args.period - 1)) 1 i (i + 1) (omega arith))
