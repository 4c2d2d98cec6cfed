use Rattle.mp_verdict.specs.Rates.{rates_in}
use Rattle.mp_admit.proofs.MixLemmas.{Mixing}
use Rattle.mp_admit.proofs.mix.mixes_at.Given as goal

abbrev pub invariant-loop-j : goal.invariant-loop-j
invariant-loop-j l = Mixing l.net (rates_in l.rates) l.j l.list.items
