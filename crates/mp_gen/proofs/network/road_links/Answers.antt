use Rattle.std.proofs.Common.{◌+◌, ◌++◌, ◌∙◌, sym, ap}
use Rattle.mp_gen.specs.DemoNetwork.{links_into}
use Rattle.mp_gen.proofs.Appended.{flat_more}
use Rattle.mp_gen.proofs.network.road_links.Goals as goal

pub loop-i-preserved : goal.loop-i-preserved
loop-i-preserved c = c.in_ok-add_links.ensures ∙ ap (λ xs. xs ++ links_into c.args.rate (c.loop-i.i + 1)) c.loop-i.invariant ∙ sym (flat_more (links_into c.args.rate) c.loop-i.i)
