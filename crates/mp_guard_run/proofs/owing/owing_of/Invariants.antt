use Rattle.std.proofs.Common.{ℕ, cond, nat_lt}
use Rattle.mp_guard_run.proofs.Sums.{Summed}
use Rattle.mp_guard_run.proofs.owing.owing_of.Given as goal

abbrev pub invariant-loop-n : goal.invariant-loop-n
invariant-loop-n l = Summed (λ (n : ℕ). cond (nat_lt 0 n) 1 0) 1 l.owed l.n-index l.count
