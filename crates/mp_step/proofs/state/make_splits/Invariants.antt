use Rattle.std.proofs.Common.{◌≡◌, map}
use Rattle.mp_model.specs.Network.{numbers_to}
use Rattle.mp_step.specs.Standing.{shares_in}
use Rattle.mp_step.proofs.state.make_splits.Given as goal

abbrev pub invariant-loop-i : goal.invariant-loop-i
invariant-loop-i l = map (λ split. split.shares) l.splits.items ≡ map (shares_in l.net) (numbers_to l.i)
