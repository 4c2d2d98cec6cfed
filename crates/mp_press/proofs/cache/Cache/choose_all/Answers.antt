use Rattle.std.proofs.Common.{◌≡◌, rules}
use Rattle.mp_model.specs.Network.{entry}
use Rattle.mp_model.specs.Run.{greatest_stages}
use Rattle.mp_laws.proofs.Bounds.{all_greatest}
use Rattle.mp_press.proofs.Firsts.{greatest_are_stages}
use Rattle.mp_press.proofs.cache.Cache.choose_all.Goals as goal

pub returns-clause-greatest : goal.returns-clause-greatest
returns-clause-greatest c =
    let net = c.args.net.now in
    let value : c.choose_all_by.new.into.items ≡ greatest_stages net (entry c.args.self.now.counts) = search rules in
    rw value (all_greatest net (entry c.args.self.now.counts) net.junctions c.shares.ensures.acceptable.network.some_stage)

pub returns-clause-stages : goal.returns-clause-stages
returns-clause-stages c = greatest_are_stages c.args.net.now (entry c.args.self.now.counts) c.args.net.now.junctions _ (returns-clause-greatest c)
