use Rattle.std.proofs.Common.{◌≡◌, arith, length}
use Rattle.std.proofs.lemmas.List.{length-map}
use Rattle.mp_net.specs.Parts.{network_of}
use Rattle.mp_net.specs.Marks.{is_marked}
use Rattle.mp_net.proofs.Marks.{from_is_there, marking-hit, marking-miss}
use Rattle.mp_net.proofs.outlets.next_marks.Goals as goal
use Rattle.mp_net.proofs.outlets.next_marks.Goals.{then-leads_outside, else-leads_outside}

pub mark-requires : goal.mark-requires
mark-requires c =
    let net = network_of c.args.parts.now in
    let count : length net.movements ≡ length c.args.parts.now.movements.items = length-map _ _ in
    let there = from_is_there net c.loop-k.k c.requires (omega arith) (omega (arith, count)) in
    (omega (arith, there.0, c.from_of.ensures), omega (arith, there.1, c.from_of.ensures, c.loop-k.invariant.length_is))

pub loop-k-preserved : goal.loop-k-preserved
loop-k-preserved c =
    let net = network_of c.args.parts.now in
    let count : length net.movements ≡ length c.args.parts.now.movements.items = length-map _ _ in
    elim c.if-leads_outside.branch [
      | then-leads_outside w ↦ marking-hit net (is_marked c.args.marks.now) c.loop-k.k c.loop-k.next.items _ c.loop-k.invariant (omega arith) (omega (arith, count)) c.requires (cc) (cc)
      | else-leads_outside w ↦ rw w.next-is (marking-miss net (is_marked c.args.marks.now) c.loop-k.k c.loop-k.next.items c.loop-k.invariant (omega arith) (cc))
    ]
