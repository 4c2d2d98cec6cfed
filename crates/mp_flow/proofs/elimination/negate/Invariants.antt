use Rattle.std.proofs.Common.{pos, ◌-ℤ◌}
use Rattle.mp_num.specs.Checked.{within}
use Rattle.mp_flow.proofs.elimination.negate.Given as goal
use Rattle.mp_num.proofs.PassingLemmas.{Going}

abbrev pub invariant-loop-k : goal.invariant-loop-k
invariant-loop-k l = Going (λ x. within (pos 0 -ℤ x)) l.fn.row l.k l.row
