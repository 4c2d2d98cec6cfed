use Rattle.std.proofs.Common.{◌≡◌, ◌∙◌, sym, ap, refl, None, is_some}
use Rattle.std.specs.List.{find}
use Rattle.mp_model.specs.Network.{movement_numbers}
use Rattle.mp_plan.specs.Marks.{is_open}
use Rattle.mp_plan.proofs.Marking.{free_fewer, is_marked_on, on_cycle, reached_more, reached_start, target_of}
use Rattle.mp_plan.proofs.cycles.is_on_cycle.Goals as goal

pub loop-k-init : goal.loop-k-init
loop-k-init c = reached_start c.args.net.now c.args.l _ refl

pub mark-requires-clause-known : goal.mark-requires-clause-known
mark-requires-clause-known c =
    let t = target_of c.args.net.now c.requires.acceptable.network c.args.l c.loop-k.marks c.in-Some.k c.loop-k.invariant (sym c.in-Some.ensures) in
    (t.known_low, t.known_high)

pub mark-requires-clause-target : goal.mark-requires-clause-target
mark-requires-clause-target c =
    let t = target_of c.args.net.now c.requires.acceptable.network c.args.l c.loop-k.marks c.in-Some.k c.loop-k.invariant (sym c.in-Some.ensures) in
    ap is_some t.to

pub loop-k-smaller : goal.loop-k-smaller
loop-k-smaller c =
    let t = target_of c.args.net.now c.requires.acceptable.network c.args.l c.loop-k.marks c.in-Some.k c.loop-k.invariant (sym c.in-Some.ensures) in
    free_fewer c.args.net.now c.args.l c.loop-k.marks c.mark.new.marks c.in-Some.k c.loop-k.invariant t c.requires.acceptable.range.links.1 c.mark.ensures

pub loop-k-preserved : goal.loop-k-preserved
loop-k-preserved c =
    let t = target_of c.args.net.now c.requires.acceptable.network c.args.l c.loop-k.marks c.in-Some.k c.loop-k.invariant (sym c.in-Some.ensures) in
    reached_more c.args.net.now c.args.l c.loop-k.marks c.mark.new.marks c.in-Some.k c.loop-k.invariant t c.requires.acceptable.range.links.1 c.mark.ensures

pub returns : goal.returns
returns c =
    let none : find (is_open c.args.net.now c.args.l c.loop-k.marks) (movement_numbers c.args.net.now) ≡ None = sym c.first_open.ensures ∙ c.in_default.is in (
      λ marked. on_cycle c.args.net.now c.args.l c.loop-k.marks c.requires.known.0 c.loop-k.invariant (sym c.is_marked.ensures ∙ marked),
      λ on. c.is_marked.ensures ∙ is_marked_on c.args.net.now c.args.l c.loop-k.marks none on,
    )
