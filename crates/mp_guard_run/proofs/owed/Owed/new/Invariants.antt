use Rattle.std.proofs.Common.{◌≡◌, None, map}
use Rattle.mp_model.specs.Guard.{greens_at}
use Rattle.mp_model.specs.Network.{numbers_to}
use Rattle.mp_guard_run.proofs.owed.Owed.new.Given as goal

abbrev pub invariant-loop-i : goal.invariant-loop-i
invariant-loop-i l = l.accounts.items ≡ map (λ j. record { owed = greens_at l.guard j; before = None }) (numbers_to l.i)
