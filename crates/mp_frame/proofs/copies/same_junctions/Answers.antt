use Rattle.std.proofs.Common.{◌∙◌, length, map, arith}
use Rattle.mp_model.specs.Network.{junction_at, no_junction}
use Rattle.mp_net.specs.Parts.{junction_of}
use Rattle.mp_frame.proofs.Copied.{all_copied, next_copy, read_all}
use Rattle.mp_frame.proofs.copies.same_junctions.Goals as goal

pub loop-j-preserved : goal.loop-j-preserved
loop-j-preserved c = next_copy (junction_at c.args.net.now) c.loop-j.j (map junction_of c.loop-j.junctions.items) _ c.in_ok-add_junction.ensures c.loop-j.invariant

pub returns : goal.returns
returns c =
    let junctions = c.args.net.now.junctions in
    all_copied (junction_at c.args.net.now) (length junctions) c.loop-j.j (map junction_of c.loop-j.junctions.items) c.loop-j.invariant (omega (arith, c.loop-j.auto.j-end, c.loop-j-test.false, c.junctions-j-end.ensures.count))
    ∙ read_all no_junction junctions
