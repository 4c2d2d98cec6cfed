use Rattle.std.proofs.Common.{◌≡◌, ◌∙◌, length, sym, arith}
use Rattle.std.proofs.lemmas.List.{length-map}
use Rattle.mp_net.specs.Parts.{network_of}
use Rattle.mp_net.proofs.Marks.{marks-more, marks-end}
use Rattle.mp_net.proofs.Ways.{first_without_way}
use Rattle.mp_net.proofs.outlets.first_without_way.Goals as goal

pub loop-round-preserved : goal.loop-round-preserved
loop-round-preserved c =
    marks-more (network_of c.args.parts.now) c.loop-round._round c.loop-round.marks.items c.in_ok-marks.marks.items c.requires.links c.loop-round.invariant
    (rw c.deref.ensures.value at c.in_ok-marks.ensures)

pub returns-clause-found : goal.returns-clause-found
returns-clause-found c =
    let net = network_of c.args.parts.now in
    let links : length c.args.parts.now.links.items ≡ length net.links = sym (length-map _ _) in
    c.first_unmarked.ensures
    ∙ rw c.deref-2.ensures.value (marks-end net c.loop-round._round c.len-n.result c.loop-round.marks.items c.loop-round.invariant (omega (arith, links)) (omega arith))

pub returns-clause-first : goal.returns-clause-first
returns-clause-first c = first_without_way (network_of c.args.parts.now) c.first_unmarked.result c.requires.links (returns-clause-found c)
