use Rattle.std.proofs.Common.{Ok, Err}
use Rattle.mp_flow.specs.declared.network.Place.TheVariants.{Adjoint}
use Rattle.mp_flow.proofs.CalculatingLemmas.{held_answered, worths_stated, worths_refused}
use Rattle.mp_flow.proofs.network.adjoint.Goals as goal

pub returns-in-Err-clause-calculation : goal.returns-in-Err-clause-calculation
returns-in-Err-clause-calculation c = worths_refused c.args.net.now c.args.u.now c.in-Err.fault (held_answered Adjoint c.in-Ok.rows _ _ _ (Err c.in-Err.fault) c.in-Ok.ensures c.in-Err.ensures)

pub returns-in-Ok-solve_at-clause-calculation : goal.returns-in-Ok-solve_at-clause-calculation
returns-in-Ok-solve_at-clause-calculation c =
    worths_stated c.args.net.now c.args.u.now c.in-Ok-solve_at.solved c.worths.result
    (held_answered Adjoint c.in-Ok.rows _ _ _ (Ok c.in-Ok-solve_at.solved) c.in-Ok.ensures c.in-Ok-solve_at.ensures) c.worths.ensures.values c.worths.ensures.denominator
