use Rattle.std.proofs.Common.{ℕ}
use Rattle.mp_guard_run.proofs.Sums.{Summed}
use Rattle.mp_guard_run.proofs.owing.sum_of.Given as goal

abbrev pub invariant-loop-n : goal.invariant-loop-n
invariant-loop-n l = Summed (λ (n : ℕ). n) 65535 l.owed l.n-index l.sum
