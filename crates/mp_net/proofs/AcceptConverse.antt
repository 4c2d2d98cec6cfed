-- A network that can be accepted breaks no rule.
use Rattle.std.proofs.Common.{◌≡◌, true, false, None}
use Rattle.mp_model.specs.Names.{is_name, is_out}
use Rattle.mp_model.specs.Network.{Network, Link}
use Rattle.mp_model.specs.NetworkRules.{IsAcceptable}
use Rattle.mp_net.specs.Spots.{first_broken}
use Rattle.mp_net.specs.Rules.{part_rules}
use Rattle.mp_net.specs.Marks.{HasItsLinks}
use Rattle.mp_net.proofs.Broken.{none_broken}
use Rattle.mp_net.proofs.Lists.{all_more}
use Rattle.mp_net.proofs.RangeLaw.{no_bad_number}
use Rattle.mp_net.proofs.NameLaw.{no_bad_name, no_repeat}
use Rattle.mp_net.proofs.LinkLaw.{few_shares, no_unknown, no_bad_shares, no_lone_link, no_unfed, no_dead_end}
use Rattle.mp_net.proofs.StageConverse.{stages_once, no_bad_stage, no_unserved}

pub not_refused : (net : Network) → IsAcceptable net → first_broken (part_rules net) ≡ None
not_refused net h =
    let n = h.network in
    let r = h.range in
    let there : HasItsLinks net = record { from = n.from; to = n.to } in
    none_broken net record {
      number = no_bad_number net record {
        shares = (n.shares, r.shares);
        per = (n.per, r.per);
        links = r.links;
        movements = r.movements;
        junctions = r.junctions;
        bursts = r.bursts;
        rates = r.rates;
        share = n.share;
        few_shares = few_shares net there n.split;
        flow = n.flow;
        flows = r.flows;
        starts = r.starts;
        delay = r.delay;
        some_stage = n.some_stage;
        stages = r.stages;
      };
      out = no_bad_name net (all_more (λ (link : Link). (is_name link.name ≡ true) × (is_out link.name ≡ false)) (λ (link : Link). is_out link.name ≡ false) net.links (λ link p. p.1) h.names.links);
      repeats = no_repeat net h.names.links_differ h.names.movements_differ h.names.junctions_differ (stages_once net n.stages);
      unknown = no_unknown net there;
      shares = no_bad_shares net n.split;
      stage = no_bad_stage net n.stages n.placed n.together r.own;
      served = no_unserved net n.placed;
      movement = no_lone_link net n.shares n.split;
      fed = no_unfed net r.some_fed;
      way = no_dead_end net there n.way_out;
    }
