use Rattle.std.proofs.Common.{◌≡◌, ◌+◌, drop}
use Rattle.mp_model.specs.EventCore.{first_undecided}
use Rattle.mp_round.proofs.round.undecided.Given as goal

abbrev pub invariant-loop-i : goal.invariant-loop-i
invariant-loop-i l = first_undecided (l.i + 1) (drop l.i l.decided) ≡ first_undecided 1 l.decided
