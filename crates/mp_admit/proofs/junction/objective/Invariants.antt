use Rattle.std.proofs.Common.{drop, []}
use Rattle.mp_model.specs.Certificate.{int_entry}
use Rattle.mp_admit.proofs.RowLemmas.{Lining}
use Rattle.mp_admit.proofs.junction.objective.Given as goal

abbrev pub invariant-loop-k : goal.invariant-loop-k
invariant-loop-k l = Lining (int_entry (drop 2 l.rates)) l.k-items [] l.k-index l.numbers.items
