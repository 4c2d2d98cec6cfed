use Rattle.std.proofs.Common.{◌∙◌, length, map, arith}
use Rattle.mp_model.specs.Frames.{frame_link}
use Rattle.mp_model.specs.Network.{link_at, no_link}
use Rattle.mp_net.specs.Parts.{link_of}
use Rattle.mp_frame.proofs.Copied.{all_copied, next_copy, read_mapped}
use Rattle.mp_frame.proofs.copies.frame_links.Goals as goal

pub loop-l-preserved : goal.loop-l-preserved
loop-l-preserved c = next_copy (λ l. frame_link c.args.f (link_at c.args.net.now l)) c.loop-l.l (map link_of c.loop-l.links.items) _ c.in_ok-add_link.ensures c.loop-l.invariant

pub returns : goal.returns
returns c =
    let links = c.args.net.now.links in
    all_copied (λ l. frame_link c.args.f (link_at c.args.net.now l)) (length links) c.loop-l.l (map link_of c.loop-l.links.items) c.loop-l.invariant (omega (arith, c.loop-l.auto.l-end, c.loop-l-test.false, c.links-l-end.ensures.count))
    ∙ read_mapped (frame_link c.args.f) no_link links
