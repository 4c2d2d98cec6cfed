use Rattle.std.proofs.Common.{rules}
use Rattle.mp_log.proofs.LoggedLemmas.{counts_from}
use Rattle.mp_log.proofs.logged.read_arrivals.Goals as goal

pub returns-then-not-read_logged-clause-none : goal.returns-then-not-read_logged-clause-none
returns-then-not-read_logged-clause-none c = λ _. (λ counts b. c.if-not-read_logged.ensures counts (counts_from c.args.line.now c.args.period c.args.fed c.in-Some.counts.now counts c.in-Some.ensures b), search rules)
