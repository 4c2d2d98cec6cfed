use Rattle.std.proofs.Common.{◌≡◌, map, drop}
use Rattle.std.specs.List.{list_all}
use Rattle.mp_model.specs.Names.{is_name}
use Rattle.mp_net.specs.Parts.{link_of}
use Rattle.mp_net.proofs.rules.names.links_have_names.Given as goal

abbrev pub invariant-loop-link : goal.invariant-loop-link
invariant-loop-link l = list_all (λ link. is_name link.name) (map link_of l.links) ≡ list_all (λ link. is_name link.name) (map link_of (drop l.link-index l.links))
