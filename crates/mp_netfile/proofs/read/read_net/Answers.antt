use Rattle.toml.specs.View.{view}
use Rattle.mp_net.specs.Parts.{network_of}
use Rattle.mp_netfile.specs.Meaning.{file_meaning}
use Rattle.mp_netfile.proofs.Rightness.{parts_there, if_refused, means_part_refusal}
use Rattle.mp_netfile.proofs.read.read_net.Goals as goal

pub net_parts-requires : goal.net_parts-requires
net_parts-requires c = parts_there (view c.in_ok-tree.tree) c.in_ok-check_tree.ensures.ok

pub returns-clause-refused : goal.returns-clause-refused
returns-clause-refused c =
    if_refused _ _ c.build.result
    (λ fault first. means_part_refusal (file_meaning c.args.bytes.now) (view c.in_ok-tree.tree) (network_of c.in_ok-parts.parts) fault c.in_ok-tree.ensures.ok c.in_ok-check_tree.ensures.ok c.in_ok-parts.ensures first)
    c.build.ensures.refused
