use Rattle.std.proofs.Common.{◌∙◌, ap}
use Rattle.mp_step.specs.Held.{Held}
use Rattle.mp_step.proofs.Sides.{flip_phases}
use Rattle.mp_step.proofs.spans.Spans.phases.Goals as goal

pub part-requires : goal.part-requires
part-requires c = (flip_phases c.self.inside c.self.invariant).within.0

pub returns : goal.returns
returns c = record { value = c.part.ensures.cells ∙ ap (λ (h : Held). h.phases) c.self.view_is }
