use Rattle.std.proofs.Common.{◌≡◌, length}
use Rattle.mp_scaled.proofs.search.zeros.Given as goal

abbrev pub invariant-loop-i : goal.invariant-loop-i
invariant-loop-i l = length l.numbers.items ≡ l._i
