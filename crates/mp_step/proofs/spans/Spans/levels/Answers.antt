use Rattle.std.proofs.Common.{◌∙◌, ap}
use Rattle.mp_step.specs.Held.{Held}
use Rattle.mp_step.proofs.Sides.{flip_levels}
use Rattle.mp_step.proofs.spans.Spans.levels.Goals as goal

pub part-requires : goal.part-requires
part-requires c = (flip_levels c.self.inside c.self.invariant).within.0

pub returns : goal.returns
returns c = record { value = c.part.ensures.cells ∙ ap (λ (h : Held). h.levels) c.self.view_is }
