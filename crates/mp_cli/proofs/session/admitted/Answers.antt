use Rattle.mp_laws.proofs.Tied.{overload}
use Rattle.mp_press.specs.Queues.{naturals}
use Rattle.mp_cli.proofs.session.admitted.Goals as goal

pub returns-in-Ok-Critical-clause-refused : goal.returns-in-Ok-Critical-clause-refused
returns-in-Ok-Critical-clause-refused c =
    let reached = rw c.in-Ok-Critical.field-0-is at c.in-Ok-Critical.ensures.calculation in
    let holds = rw c.in-Ok-Critical.field-0-is at c.in-Ok-Critical.ensures.holds in
    record { reached = reached; tight = holds.1; critical = holds.2; carried = holds.3.carries; none = holds.3.none }

pub returns-in-Ok-Overloaded-clause-refused : goal.returns-in-Ok-Overloaded-clause-refused
returns-in-Ok-Overloaded-clause-refused c =
    let reached = rw c.in-Ok-Overloaded.field-0-is at c.in-Ok-Overloaded.ensures.calculation in
    let holds = rw c.in-Ok-Overloaded.field-0-is at c.in-Ok-Overloaded.ensures.holds in
    let shows = holds.1 in
    record { reached = reached; shows = shows; none = overload c.args.net.now c.shares.ensures.acceptable.network (naturals c.in-Ok-Overloaded.against.p, shows) }
