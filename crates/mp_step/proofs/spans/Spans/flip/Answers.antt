use Rattle.std.proofs.Common.{◌∙◌, ap, not}
use Rattle.mp_region.specs.Cells.{part_of}
use Rattle.mp_step.specs.Held.{flipped}
use Rattle.mp_step.proofs.Sides.{same, turned, flip_queues, flip_phases, flip_levels}
use Rattle.mp_step.proofs.spans.Spans.flip.Goals as goal

pub flip-requires-clause-lengths : goal.flip-requires-clause-lengths
flip-requires-clause-lengths c = (flip_queues c.self.inside c.self.invariant).len

pub flip-requires-clause-apart : goal.flip-requires-clause-apart
flip-requires-clause-apart c = (flip_queues c.self.inside c.self.invariant).apart

pub flip-requires-clause-within : goal.flip-requires-clause-within
flip-requires-clause-within c = (flip_queues c.self.inside c.self.invariant).within

pub flip-requires-2-clause-lengths : goal.flip-requires-2-clause-lengths
flip-requires-2-clause-lengths c = (flip_phases c.self.inside c.self.invariant).len

pub flip-requires-2-clause-apart : goal.flip-requires-2-clause-apart
flip-requires-2-clause-apart c = (flip_phases c.self.inside c.self.invariant).apart

pub flip-requires-2-clause-within : goal.flip-requires-2-clause-within
flip-requires-2-clause-within c = (flip_phases c.self.inside c.self.invariant).within

pub flip-requires-3-clause-lengths : goal.flip-requires-3-clause-lengths
flip-requires-3-clause-lengths c = (flip_levels c.self.inside c.self.invariant).len

pub flip-requires-3-clause-apart : goal.flip-requires-3-clause-apart
flip-requires-3-clause-apart c = (flip_levels c.self.inside c.self.invariant).apart

pub flip-requires-3-clause-within : goal.flip-requires-3-clause-within
flip-requires-3-clause-within c = (flip_levels c.self.inside c.self.invariant).within

pub invariant_of-self : goal.invariant_of-self
invariant_of-self c =
    let s = c.self.inside in
    let laid = c.self.invariant in
    let sides = turned laid.back laid.movements laid.links s.queues s.phases s.levels s.next_queues s.next_phases s.next_levels laid.now laid.next in
    record {
      movements = laid.movements;
      links = laid.links;
      back = not laid.back;
      some = laid.some;
      size = laid.size;
      used = laid.used;
      now = record { first = c.flip.ensures.first ∙ sides.0.first; second = c.flip-2.ensures.first ∙ sides.0.second; third = c.flip-3.ensures.first ∙ sides.0.third };
      next = record { first = c.flip.ensures.second ∙ sides.1.first; second = c.flip-2.ensures.second ∙ sides.1.second; third = c.flip-3.ensures.second ∙ sides.1.third };
    }

pub returns : goal.returns
returns c =
    let part = part_of c.self.inside.region in
    same _ _ _ _ _ _ _ _ _ _ _ _ (ap part c.flip.ensures.first, (ap part c.flip-2.ensures.first, ap part c.flip-3.ensures.first)) (ap part c.flip.ensures.second, (ap part c.flip-2.ensures.second, ap part c.flip-3.ensures.second))
    ∙ ap flipped c.self.view_is
