use Rattle.std.proofs.Common.{length}
use Rattle.mp_guard.specs.Checking.{green_rules}
use Rattle.mp_guard.proofs.CheckLemmas.{Trying}
use Rattle.mp_guard.proofs.checking.check_greens.Given as goal

abbrev pub invariant-loop-j : goal.invariant-loop-j
invariant-loop-j l = Trying l.net l.guard (green_rules l.net) (length l.net.junctions) l.j
