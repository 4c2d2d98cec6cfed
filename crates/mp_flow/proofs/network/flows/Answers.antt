use Rattle.std.proofs.Common.{Err}
use Rattle.mp_flow.specs.declared.network.Place.TheVariants.{Flow}
use Rattle.mp_flow.proofs.CalculatingLemmas.{held_answered, flows_refused}
use Rattle.mp_flow.proofs.network.flows.Goals as goal

pub returns-in-Err-clause-calculation : goal.returns-in-Err-clause-calculation
returns-in-Err-clause-calculation c = flows_refused c.args.net.now c.in-Err.fault (held_answered Flow c.in-Ok.rows _ _ _ (Err c.in-Err.fault) c.in-Ok.ensures c.in-Err.ensures)
