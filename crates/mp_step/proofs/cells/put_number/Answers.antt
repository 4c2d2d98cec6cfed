use Rattle.std.proofs.Common.{◌-◌, ◌∙◌, ap₂, set, ℤ, subst, sym}
use Rattle.std.specs.Int.{w128}
use Rattle.std.proofs.Math.Facts.{to_z_pos}
use Rattle.mp_press.specs.Queues.{naturals, NoneNegative}
use Rattle.mp_press.proofs.Signs.{naturals_set, none_set}
use Rattle.mp_step.proofs.cells.put_number.Goals as goal

pub returns-clause-value : goal.returns-clause-value
returns-clause-value c =
    ap₂ (λ i z. naturals (set c.args.cells.now (i - 1) z)) c.from.ensures (to_z_pos w128 c.requires.fits) ∙ naturals_set c.args.cells.now (c.args.k - 1) c.args.number

pub returns-clause-some : goal.returns-clause-some
returns-clause-some c = λ h. subst (λ (z : ℤ). NoneNegative (set c.args.cells.now (c.from.result - 1) z)) (sym (to_z_pos w128 c.requires.fits)) (none_set c.args.cells.now (c.from.result - 1) c.args.number h)
