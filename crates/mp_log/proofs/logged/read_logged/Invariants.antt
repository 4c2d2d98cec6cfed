use Rattle.mp_log.proofs.LoggedLemmas.{Reading}
use Rattle.mp_log.proofs.logged.read_logged.Given as goal

abbrev pub invariant-loop : goal.invariant-loop
invariant-loop l = Reading l.bytes l.fed l.rest l.into.items l.counter
