use Rattle.std.proofs.Common.{◌≡◌, ◌∙◌, ◌-◌, ap₂, arith}
use Rattle.mp_model.specs.Network.{link_at}
use Rattle.mp_overload.specs.Evens.{come_by}
use Rattle.mp_growth.proofs.EvenCounts.{count_few, rate_few}
use Rattle.mp_growth.proofs.evens.even_count.Goals as goal

pub returns-clause-few : goal.returns-clause-few
returns-clause-few c =
    let net = c.args.net.now in
    let rate = (link_at net c.args.l).rate in
    let last : c.come_by.result ≡ come_by net.per rate c.args.period = c.come_by.ensures.value ∙ ap₂ (λ per rate. come_by per rate c.args.period) c.per.ensures c.link.ensures.rate in
    let before : c.come_by-2.result ≡ come_by net.per rate (c.args.period - 1) = c.come_by-2.ensures.value ∙ ap₂ (λ per rate. come_by per rate (c.args.period - 1)) c.per-2.ensures c.link.ensures.rate in
    let few = count_few net.per rate c.args.period c.requires.acceptable.network.per c.requires.period.0 in
    omega (arith, few, rate_few net c.requires.acceptable c.args.l, last, before)
