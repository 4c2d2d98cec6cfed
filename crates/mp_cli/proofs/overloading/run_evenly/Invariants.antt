use Rattle.mp_cli.proofs.GrowthLemmas.{RanTo}
use Rattle.mp_cli.proofs.overloading.run_evenly.Given as goal

abbrev pub invariant-loop-turn : goal.invariant-loop-turn
invariant-loop-turn l = RanTo l.net l.trail l._turn
