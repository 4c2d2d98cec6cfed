use Rattle.std.proofs.Common.{◌∙◌, ap₂, rules}
use Rattle.mp_model.specs.Plans.{running_from}
use Rattle.mp_plan.proofs.plan.running.Goals as goal

pub returns : goal.returns
returns c = record { stage = c.running_in.ensures ∙ ap₂ (running_from 1) c.greens.ensures (search rules) }
