use Rattle.std.proofs.Common.{◌≡◌, rules}
use Rattle.mp_model.specs.Network.{entry, junction_at}
use Rattle.mp_model.specs.Pressure.{greatest_stage}
use Rattle.mp_laws.proofs.Greatest.{greatest_stage_is}
use Rattle.mp_press.proofs.Known.{some_stage}
use Rattle.mp_press.proofs.cache.Cache.choose.Goals as goal

pub returns-clause-greatest : goal.returns-clause-greatest
returns-clause-greatest c =
    let net = c.args.net.now in
    let j = junction_at net c.args.j in
    let value : c.choose_by.result ≡ greatest_stage net (entry c.args.self.now.counts) j = search rules in
    rw value (greatest_stage_is net (entry c.args.self.now.counts) j (some_stage net c.shares.ensures.acceptable.network c.args.j c.requires.junction.0 c.requires.junction.1))
