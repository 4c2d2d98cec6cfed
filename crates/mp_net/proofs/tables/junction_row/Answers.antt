use Rattle.std.proofs.Common.{◌≡◌}
use Rattle.mp_model.specs.Network.{targets, next}
use Rattle.mp_net.specs.Parts.{network_of, junction_of}
use Rattle.mp_net.proofs.tables.junction_row.Goals as goal

pub returns : goal.returns
returns c =
    let net = network_of c.args.parts.now in
    let junction = junction_of c.args.junction.now in
    let targets_are : c.in_ok-targets.targets.items ≡ targets net junction = rw (c.deref.ensures.value, c.in_ok-own.ensures) at c.in_ok-targets.ensures in
    let next_are : c.in_ok-next.next.items ≡ next net junction = rw (c.deref-2.ensures.value, targets_are) at c.in_ok-next.ensures in
    record { own_are = c.in_ok-own.ensures; targets_are = targets_are; next_are = next_are }
