-- Parts that break no rule give a network that can be accepted.
use Rattle.std.proofs.Common.{◌≡◌, true, false, None}
use Rattle.mp_model.specs.Names.{is_name, is_out}
use Rattle.mp_model.specs.Network.{Network, Link}
use Rattle.mp_model.specs.NetworkRules.{IsNetwork, IsInRange, HasNames, IsAcceptable}
use Rattle.mp_net.specs.Named.{IsNamed}
use Rattle.mp_net.specs.Spots.{first_broken}
use Rattle.mp_net.specs.Rules.{part_rules}
use Rattle.mp_net.proofs.Broken.{BreaksNone, breaks_none}
use Rattle.mp_net.proofs.Lists.{all_both}
use Rattle.mp_net.proofs.RangeLaw.{HasNumbers, its_numbers}
use Rattle.mp_net.proofs.NameLaw.{not_out, link_names_differ, movement_names_differ, junction_names_differ, stages_repeat_nothing}
use Rattle.mp_net.proofs.LinkLaw.{its_links, its_split, its_ways, some_fed}
use Rattle.mp_net.proofs.StageLaw.{its_stages, its_places, its_junctions, few_own}

network : (net : Network) → BreaksNone net → HasNumbers net → IsNetwork net
network net h n =
    let there = its_links net h.unknown in
    record {
      shares = n.shares.0;
      per = n.per.0;
      share = n.share;
      flow = n.flow;
      some_stage = n.some_stage;
      split = its_split net h.shares h.movement;
      from = there.from;
      to = there.to;
      placed = its_places net h.stage h.served there;
      stages = its_stages net h.stage (stages_repeat_nothing net h.repeats);
      together = its_junctions net h.stage h.served;
      way_out = its_ways net h.way;
    }

range : (net : Network) → BreaksNone net → HasNumbers net → IsInRange net
range net h n = record {
  shares = n.shares.1;
  per = n.per.1;
  links = n.links;
  movements = n.movements;
  junctions = n.junctions;
  bursts = n.bursts;
  rates = n.rates;
  flows = n.flows;
  starts = n.starts;
  delay = n.delay;
  stages = n.stages;
  own = few_own net h.stage;
  some_fed = some_fed net h.fed;
}

names : (net : Network) → BreaksNone net → IsNamed net → HasNames net
names net h named = record {
  links = all_both (λ (link : Link). is_name link.name ≡ true) (λ (link : Link). is_out link.name ≡ false) net.links named.links (not_out net h.out);
  movements = named.movements;
  junctions = named.junctions;
  links_differ = link_names_differ net h.repeats;
  movements_differ = movement_names_differ net h.repeats;
  junctions_differ = junction_names_differ net h.repeats;
}

pub accepted : (net : Network) → IsNamed net → first_broken (part_rules net) ≡ None → IsAcceptable net
accepted net named none =
    let h = breaks_none net none in
    let n = its_numbers net h.number in
    record { network = network net h n; range = range net h n; names = names net h named }
