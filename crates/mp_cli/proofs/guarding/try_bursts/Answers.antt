use Rattle.std.proofs.Common.{sym, subst}
use Rattle.mp_cli.proofs.GuardLemmas.{no_bursts}
use Rattle.mp_cli.specs.declared.outcome.Outcome.{Outcome}
use Rattle.mp_cli.specs.Guarding.{HasNoBursts}
use Rattle.mp_cli.proofs.guarding.try_bursts.Goals as goal

pub returns-clause-refused : goal.returns-clause-refused
returns-clause-refused c =
    subst (λ (outcome : Outcome). HasNoBursts outcome c.args.net.now c.args.guard.now) (sym c.outcome_of_bursts.ensures)
    (no_bursts c.in-Err.fault c.args.net.now c.args.guard.now c.in-Ok.surpluses.items c.in-Ok.ensures (λ same. rw c.deref.ensures.value at c.in-Err.ensures.sweeps same))
