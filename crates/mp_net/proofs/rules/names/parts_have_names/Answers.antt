use Rattle.mp_model.specs.Names.{is_name}
use Rattle.mp_model.specs.Network.{Link, Movement, Junction}
use Rattle.mp_net.specs.Parts.{network_of}
use Rattle.mp_net.proofs.Lists.{all_pass}
use Rattle.mp_net.proofs.rules.names.parts_have_names.Goals as goal

pub returns : goal.returns
returns c =
    let net = network_of c.args.parts.now in
    record {
      links = all_pass (λ (link : Link). is_name link.name) net.links (rw c.deref.ensures.value at c.links_have_names.ensures);
      movements = all_pass (λ (movement : Movement). is_name movement.name) net.movements (rw c.deref-2.ensures.value at c.movements_have_names.ensures);
      junctions = all_pass (λ (j : Junction). is_name j.name) net.junctions (rw c.deref-3.ensures.value at c.junctions_have_names.ensures);
    }
