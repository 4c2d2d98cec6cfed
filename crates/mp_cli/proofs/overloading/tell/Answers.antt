use Rattle.std.proofs.Common.{sym, subst, FitsSigned, to_z-of_z, rules}
use Rattle.std.specs.Int.{w128}
use Rattle.mp_cli.specs.declared.outcome.Outcome.{Outcome}
use Rattle.mp_cli.specs.Overloading.{IsUntold}
use Rattle.mp_cli.specs.Statuses.{HasNoFault}
use Rattle.mp_cli.proofs.GrowthLemmas.{untold_trail, untold_growth, untold_queues, untold_last, tells, is_so, growth_inside}
use Rattle.mp_cli.proofs.overloading.tell.Goals as goal

pub returns-in-Err-clause-refused : goal.returns-in-Err-clause-refused
returns-in-Err-clause-refused c =
    subst (λ (outcome : Outcome). IsUntold outcome c.args.net.now c.args.against.now.p) (sym c.outcome_of_trail.ensures) (untold_trail c.in-Err.fault c.args.net.now c.args.against.now.p c.in-Err.ensures.none)

pub returns-in-Err-growth-clause-refused : goal.returns-in-Err-growth-clause-refused
returns-in-Err-growth-clause-refused c =
    subst (λ (outcome : Outcome). IsUntold outcome c.args.net.now c.args.against.now.p) (sym c.outcome_of_growth.ensures) (untold_growth c.in-Err-growth.fault c.args.net.now c.args.against.now.p c.in-Ok.ensures.even c.in-Err-growth.ensures.calculation)

pub returns-in-Err-sum-clause-refused : goal.returns-in-Err-sum-clause-refused
returns-in-Err-sum-clause-refused c =
    let net = c.args.net.now in
    let p = c.args.against.now.p in
    subst (λ (outcome : Outcome). IsUntold outcome net p) (sym c.outcome_of_growth-in-Err-sum.ensures)
    (untold_queues c.in-Err-sum.fault net p c.run_evenly.new.trail c.in-Ok-growth.rate c.in-Ok.ensures.even c.in-Ok-growth.ensures.calculation c.run_evenly.ensures.end c.in-Err-sum.ensures.calculation)

pub returns-in-Err-sum-clause-inside : goal.returns-in-Err-sum-clause-inside
returns-in-Err-sum-clause-inside c = subst HasNoFault (sym c.outcome_of_growth-in-Err-sum.ensures) (growth_inside c.in-Err-sum.fault)

pub returns-clause-refused : goal.returns-clause-refused
returns-clause-refused c =
    let net = c.args.net.now in
    let p = c.args.against.now.p in
    subst (λ (outcome : Outcome). IsUntold outcome net p) (sym c.outcome_of_growth-in-Err-least.ensures)
    (untold_last c.in-Err-least.fault net p c.run_evenly.new.trail c.in-Ok-growth.rate c.in-Ok-sum.sum c.in-Ok.ensures.even c.in-Ok-growth.ensures.calculation c.run_evenly.ensures.end c.in-Ok-sum.ensures.calculation c.in-Err-least.ensures.calculation)

pub returns-clause-inside : goal.returns-clause-inside
returns-clause-inside c = subst HasNoFault (sym c.outcome_of_growth-in-Err-least.ensures) (growth_inside c.in-Err-least.fault)

pub returns-in-Ok-least-clause-told : goal.returns-in-Ok-least-clause-told
returns-in-Ok-least-clause-told c =
    let fits : FitsSigned w128 c.in-Ok-sum.sum = search rules in
    let fits' : FitsSigned w128 c.in-Ok-least.least = search rules in
    let all = tells c.args.net.now c.args.against.now.p c.run_evenly.new.trail c.in-Ok-growth.rate c.in-Ok-sum.sum c.in-Ok-least.least c.run_evenly.ensures.end c.in-Ok-growth.ensures.calculation c.in-Ok-sum.ensures.calculation c.in-Ok-least.ensures.calculation in
    simp to_z-of_z all

pub returns-in-Ok-least-clause-so : goal.returns-in-Ok-least-clause-so
returns-in-Ok-least-clause-so c =
    let fits : FitsSigned w128 c.in-Ok-sum.sum = search rules in
    let fits' : FitsSigned w128 c.in-Ok-least.least = search rules in
    let all = is_so c.args.net.now c.args.against.now.p c.run_evenly.new.trail c.in-Ok-growth.rate c.in-Ok-sum.sum c.in-Ok-least.least c.run_evenly.ensures.end c.run_evenly.ensures.period c.in-Ok-growth.ensures.per c.in-Ok-growth.ensures.lost c.in-Ok-sum.ensures.value c.in-Ok-least.ensures.value c.in-Ok-sum.ensures.grown in
    simp to_z-of_z all
