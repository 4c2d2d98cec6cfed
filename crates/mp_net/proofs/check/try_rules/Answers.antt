use Rattle.std.proofs.Common.{◌∙◌, sym}
use Rattle.mp_net.specs.Parts.{network_of}
use Rattle.mp_net.proofs.Broken.{passed}
use Rattle.mp_net.proofs.LinkLaw.{its_links}
use Rattle.mp_net.proofs.check.try_rules.Goals as goal

pub no_way_out-requires-clause-links : goal.no_way_out-requires-clause-links
no_way_out-requires-clause-links c = its_links (network_of c.args.parts.now) (sym c.unknown_link.ensures ∙ passed _ c.unknown_link.result _ _ c.require-4.ensures c.in_ok-require-4.was)
