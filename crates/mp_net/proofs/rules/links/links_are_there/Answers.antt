use Rattle.std.proofs.Common.{◌∙◌, sym}
use Rattle.mp_net.specs.Parts.{network_of}
use Rattle.mp_net.proofs.Broken.{none_from_test, test_from_none}
use Rattle.mp_net.proofs.LinkLaw.{its_links, no_unknown}
use Rattle.mp_net.proofs.rules.links.links_are_there.Goals as goal

pub returns : goal.returns
returns c =
    let net = network_of c.args.parts.now in (
      λ t. its_links net (sym c.unknown_link.ensures ∙ none_from_test c.unknown_link.result c.is_none.result c.is_none.ensures t),
      λ there. test_from_none c.unknown_link.result c.is_none.result c.is_none.ensures (c.unknown_link.ensures ∙ no_unknown net there),
    )
