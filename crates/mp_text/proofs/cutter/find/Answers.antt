use Rattle.std.proofs.Common.{arith, rules}
use Rattle.mp_edge.proofs.Told.{Tells-then}
use Rattle.mp_text.proofs.Filling.{none_left}
use Rattle.mp_text.proofs.cutter.find.Goals as goal

pub returns-then-now-eq0-clause-end : goal.returns-then-now-eq0-clause-end
returns-then-now-eq0-clause-end g c = λ _. (
  omega arith,
  Tells-then _ _ _ _ _ _ (λ was mid now t f. none_left _ _ _ _ mid now c.in-Ok.ensures.kept (search rules) f) c.loop-at.invariant.told c.in-Ok.ensures.told,
)

pub returns-else-now-eq0-clause-last : goal.returns-else-now-eq0-clause-last
returns-else-now-eq0-clause-last g c = λ _. (
  rw c.in-Ok.ensures.kept (search rules),
  omega arith,
  omega arith,
  Tells-then _ _ _ _ _ _ (λ was mid now t f. none_left _ _ _ _ mid now c.in-Ok.ensures.kept (search rules) f) c.loop-at.invariant.told c.in-Ok.ensures.told,
)

pub returns-in-Err-clause-unended : goal.returns-in-Err-clause-unended
returns-in-Err-clause-unended g c = λ _. (rw c.in-Err.ensures.kept (search rules), omega arith)
