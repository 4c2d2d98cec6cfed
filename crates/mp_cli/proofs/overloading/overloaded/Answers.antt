use Rattle.mp_laws.proofs.Tied.{overload}
use Rattle.mp_press.specs.Queues.{naturals}
use Rattle.mp_cli.proofs.overloading.overloaded.Goals as goal

pub returns-in-Ok-Overloaded-clause-shown : goal.returns-in-Ok-Overloaded-clause-shown
returns-in-Ok-Overloaded-clause-shown c =
    let reached = rw c.in-Ok-Overloaded.field-0-is at c.in-Ok-Overloaded.ensures.calculation in
    let holds = rw c.in-Ok-Overloaded.field-0-is at c.in-Ok-Overloaded.ensures.holds in
    record { reached = reached; shows = holds.1; none = overload c.args.net.now c.shares.ensures.acceptable.network (naturals c.in-Ok-Overloaded.against.p, holds.1) }

pub returns-in-Ok-Overloaded-clause-lengths : goal.returns-in-Ok-Overloaded-clause-lengths
returns-in-Ok-Overloaded-clause-lengths c = let holds = rw c.in-Ok-Overloaded.field-0-is at c.in-Ok-Overloaded.ensures.holds in holds.0.lengths

pub returns-in-Ok-Overloaded-clause-signs : goal.returns-in-Ok-Overloaded-clause-signs
returns-in-Ok-Overloaded-clause-signs c = let holds = rw c.in-Ok-Overloaded.field-0-is at c.in-Ok-Overloaded.ensures.holds in holds.0.signs

pub returns-in-Ok-Critical-clause-refused : goal.returns-in-Ok-Critical-clause-refused
returns-in-Ok-Critical-clause-refused c =
    let reached = rw c.in-Ok-Critical.field-0-is at c.in-Ok-Critical.ensures.calculation in
    let holds = rw c.in-Ok-Critical.field-0-is at c.in-Ok-Critical.ensures.holds in
    record { reached = reached; tight = holds.1; critical = holds.2; carried = holds.3.carries; none = holds.3.none }

pub returns-in-Ok-Admitted-clause-refused : goal.returns-in-Ok-Admitted-clause-refused
returns-in-Ok-Admitted-clause-refused c =
    let reached = rw c.in-Ok-Admitted.field-0-is at c.in-Ok-Admitted.ensures.calculation in
    let holds = rw c.in-Ok-Admitted.field-0-is at c.in-Ok-Admitted.ensures.holds in
    record { cert = _; vector = _; slack = _; reached = reached; admitted = holds.1; is = tt }
