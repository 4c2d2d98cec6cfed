use Rattle.mp_simplex.proofs.ResultLemmas.{weak_duality, optimum_greatest}
use Rattle.mp_simplex.proofs.weak_duality_law.Goals as goal

pub returns-clause-greatest : goal.returns-clause-greatest
returns-clause-greatest c = λ lp best h. optimum_greatest lp best h

pub returns-clause-weak_duality : goal.returns-clause-weak_duality
returns-clause-weak_duality c = λ m n a b cost x y d e p q. weak_duality m n a b cost x y d e p q
