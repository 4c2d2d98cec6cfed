use Rattle.std.proofs.Common.{◌≡◌, ◌≤ℤ◌, pos, subst, Some, [], ◌∷◌, rules, Vec, Global, ℤ}
use Rattle.mp_flow.specs.Calculating.{flows_of}
use Rattle.mp_num.specs.Operations.{times}
use Rattle.mp_verdict.specs.Rates.{period_unit, rates_in}
use Rattle.mp_admit.proofs.RateLemmas.{rates_refused, whole_sign, first_sign}
use Rattle.mp_admit.proofs.rates.rates_at.Goals as goal

pub returns-in-Err-clause-calculation : goal.returns-in-Err-clause-calculation
returns-in-Err-clause-calculation c =
    let d : times (period_unit c.args.net.now (flows_of c.args.flows.now)) (Some c.args.slack.now.den) ≡ Some c.in-Some.whole = cc in
    let e : times (period_unit c.args.net.now (flows_of c.args.flows.now)) (Some c.args.slack.now.num) ≡ Some c.in-Some-excess_at.excess = cc in
    let f : c.in-Ok.first.items ≡ c.in-Some.whole ∷ c.in-Some-excess_at.excess ∷ [] = search rules in
    rates_refused {X = Vec ℤ Global} {X' = Vec ℤ Global} (λ r. r.items) (λ r. rates_in r.items) c.args.place c.args.net.now (flows_of c.args.flows.now) c.args.slack.now c.in-Some.whole c.in-Some-excess_at.excess c.in-Ok.first.items c.in-Err.fault d e f c.in-Err.ensures.calculation

pub returns-in-Ok-with_needs-clause-sign : goal.returns-in-Ok-with_needs-clause-sign
returns-in-Ok-with_needs-clause-sign c =
    let d : times (period_unit c.args.net.now (flows_of c.args.flows.now)) (Some c.args.slack.now.den) ≡ Some c.in-Some.whole = cc in
    let f : c.in-Ok.first.items ≡ c.in-Some.whole ∷ c.in-Some-excess_at.excess ∷ [] = search rules in
    let p : pos 1 ≤ℤ c.args.slack.now.den = subst (λ (t : ℤ). pos 1 ≤ℤ t) c.den-den.ensures.value c.den-den.ensures.lowest.positive in
    first_sign _ _ _ _ _ _ _ f (whole_sign _ _ _ _ c.requires.flows p d) c.in-Ok-with_needs.ensures.calculation c.reduce.ensures.value
