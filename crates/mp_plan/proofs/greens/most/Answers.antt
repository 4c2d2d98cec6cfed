use Rattle.std.proofs.Common.{◌≤◌, arith, length}
use Rattle.mp_cert.proofs.PlaceLemmas.{in_list}
use Rattle.mp_laws.proofs.Lists.{at_in}
use Rattle.mp_model.specs.Network.{flow_of, movement_numbers}
use Rattle.mp_plan.proofs.greens.most.Goals as goal

pub returns-clause-some : goal.returns-clause-some
returns-clause-some c =
    let net = c.args.net.now in
    let one : 1 ≤ flow_of net c.args.k = at_in (λ k. 1 ≤ flow_of net k) c.args.k (movement_numbers net) (in_list (length net.movements) c.args.k c.requires.known.0 c.requires.known.1) c.requires.acceptable.network.flow in
    omega (arith, c.from.ensures, c.movement.ensures.flow, one)
