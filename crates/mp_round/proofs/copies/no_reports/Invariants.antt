use Rattle.std.proofs.Common.{◌≡◌, replicate, None}
use Rattle.mp_round.proofs.copies.no_reports.Given as goal

abbrev pub invariant-places : goal.invariant-places
invariant-places l = l.row.items ≡ replicate l.counter None
