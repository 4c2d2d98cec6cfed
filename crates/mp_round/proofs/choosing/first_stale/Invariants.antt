use Rattle.std.proofs.Common.{◌≡◌, drop}
use Rattle.std.specs.Prelude.{find}
use Rattle.mp_round.specs.Deciding.{is_lacking}
use Rattle.mp_round.proofs.choosing.first_stale.Given as goal

abbrev pub invariant-loop-l : goal.invariant-loop-l
invariant-loop-l l = find (is_lacking l.net l.period l.copies l.j) (drop l.l-index l.l-items) ≡ find (is_lacking l.net l.period l.copies l.j) l.l-items
