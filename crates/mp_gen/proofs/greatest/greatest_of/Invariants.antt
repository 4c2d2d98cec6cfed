use Rattle.std.proofs.Common.{◌≡◌, take}
use Rattle.mp_press.specs.Queues.{naturals}
use Rattle.mp_model.specs.Load.{greatest as greatest_of}
use Rattle.mp_gen.proofs.greatest.greatest_of.Given as goal

abbrev pub invariant-loop-i : goal.invariant-loop-i
invariant-loop-i l = l.greatest ≡ greatest_of (take l.i (naturals l.numbers))
