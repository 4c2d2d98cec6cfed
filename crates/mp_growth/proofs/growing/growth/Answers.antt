use Rattle.std.proofs.Common.{◌≡◌, Some, sym, ◌∙◌, ap}
use Rattle.mp_overload.proofs.Forms.{forms}
use Rattle.mp_growth.specs.Formed.{rate_formed}
use Rattle.mp_growth.proofs.Rates.{rate_parts, growth_same}
use Rattle.mp_growth.proofs.growing.growth.Goals as goal

pub returns-in-Some-clause-per : goal.returns-in-Some-clause-per
returns-in-Some-clause-per c =
    let net = c.args.net.now in
    let p = c.args.against.now.p in
    let is : rate_formed net p c.in-Ok.sums ≡ Some c.in-Some.rate = ap (λ xs. rate_formed net xs c.in-Ok.sums) (sym c.as_slice.ensures) ∙ sym c.rate_by.ensures ∙ c.in-Some.is in
    (forms net p c.requires.signs).growth_is c.in-Some.rate.per (growth_same net p c.in-Ok.sums c.in-Ok.ensures.load c.in-Ok.ensures.served ∙ (rate_parts net p c.in-Ok.sums c.in-Some.rate is).0)

pub returns-in-Some-clause-lost : goal.returns-in-Some-clause-lost
returns-in-Some-clause-lost c =
    let net = c.args.net.now in
    let p = c.args.against.now.p in
    let is : rate_formed net p c.in-Ok.sums ≡ Some c.in-Some.rate = ap (λ xs. rate_formed net xs c.in-Ok.sums) (sym c.as_slice.ensures) ∙ sym c.rate_by.ensures ∙ c.in-Some.is in
    (forms net p c.requires.signs).lost_is c.in-Some.rate.lost (rate_parts net p c.in-Ok.sums c.in-Some.rate is).1
