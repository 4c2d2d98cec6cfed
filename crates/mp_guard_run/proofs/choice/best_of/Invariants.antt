use Rattle.std.proofs.Common.{filter}
use Rattle.mp_model.specs.Network.{junction_at, numbers_to}
use Rattle.mp_guard_run.specs.Choosing.{IsBest, best_at, fits_or, pressed}
use Rattle.mp_guard_run.proofs.choice.best_of.Given as goal

abbrev pub invariant-loop-i : goal.invariant-loop-i
invariant-loop-i l = IsBest (pressed (junction_at l.net l.j) l.presses) (filter (fits_or l.guard l.period l.account l.idle) (numbers_to l.i)) (best_at l.stage l.most)
