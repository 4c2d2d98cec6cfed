use Rattle.mp_step.specs.Standing.{IsOn}
use Rattle.mp_cases.proofs.periods.periods.Given as goal

abbrev pub invariant-loop-case : goal.invariant-loop-case
invariant-loop-case l = IsOn l.net l.state
