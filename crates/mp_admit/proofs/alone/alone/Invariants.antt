use Rattle.std.proofs.Common.{◌==◌, cond, pos, []}
use Rattle.mp_admit.proofs.RowLemmas.{Lining}
use Rattle.mp_admit.proofs.alone.alone.Given as goal

abbrev pub invariant-loop-m : goal.invariant-loop-m
invariant-loop-m l = Lining (λ m. cond (m == l.k) (pos 1) (pos 0)) l.m-items [] l.m-index l.numbers.items
