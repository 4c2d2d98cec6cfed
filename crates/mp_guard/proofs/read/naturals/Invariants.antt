use Rattle.std.proofs.Common.{◌≡◌, map, take, unsigned_abs}
use Rattle.mp_guard.proofs.read.naturals.Given as goal

abbrev pub invariant-loop-number : goal.invariant-loop-number
invariant-loop-number l = l.numbers.items ≡ map unsigned_abs (take l.number-index l.row)
