use Rattle.toml.specs.View.{view}
use Rattle.mp_netfile.proofs.Joined.{parts_joined}
use Rattle.mp_netfile.proofs.parts.net_parts.Goals as goal

pub returns : goal.returns
returns c =
    parts_joined (view c.args.tree.now) c.number_at.result c.number_at-2.result c.number_at-3.result c.in_ok-links.links.items c.in_ok-movements.movements.items c.in_ok-junctions.junctions.items _ _ _
    c.section.ensures c.section-2.ensures c.section-3.ensures c.number_at.ensures c.number_at-2.ensures c.number_at-3.ensures c.in_ok-links.ensures
    (rw c.deref.ensures.value at c.in_ok-movements.ensures) (rw c.deref-2.ensures.value at c.in_ok-junctions.ensures)
