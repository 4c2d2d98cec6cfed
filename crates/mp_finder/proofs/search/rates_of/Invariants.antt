use Rattle.std.proofs.Common.{unsigned_abs}
use Rattle.mp_finder.proofs.Lists.{Mapping}
use Rattle.mp_finder.proofs.search.rates_of.Given as goal

abbrev pub invariant-loop-rate : goal.invariant-loop-rate
invariant-loop-rate l = Mapping unsigned_abs l.rate-items l.rate-index l.rates.items
