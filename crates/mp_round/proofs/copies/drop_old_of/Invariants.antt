use Rattle.std.proofs.Common.{◌≡◌, ◌++◌, map, take, drop}
use Rattle.mp_model.specs.EventCore.{accepted}
use Rattle.mp_round.proofs.copies.drop_old_of.Given as goal

abbrev pub invariant-loop-i : goal.invariant-loop-i
invariant-loop-i l = l.row.items ≡ map (accepted l.delay l.period) (take l.i l.initial.row.items) ++ drop l.i l.initial.row.items
