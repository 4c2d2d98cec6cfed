use Rattle.std.proofs.Common.{◌-◌, ◌∙◌, sym, arith, map, unsigned_abs}
use Rattle.mp_num.specs.Fraction.{numerator, denominator}
use Rattle.mp_log.proofs.HeaderLemmas.{bound_at}
use Rattle.mp_log.proofs.header.push_header_line.Goals as goal

pub returns-else-i-eq2-clause-held : goal.returns-else-i-eq2-clause-held
returns-else-i-eq2-clause-held c =
    c.push_bound.ensures.held
    ∙ sym (bound_at c.args.net.now (numerator c.args.slack.now) (denominator c.args.slack.now) c.args.i (c.args.i - 2) (map unsigned_abs c.args.bound.now) (omega arith) (omega arith) (omega arith))
