use Rattle.std.proofs.Common.{rules, sym}
use Rattle.mp_cert.proofs.LineLemmas.{fed_line, unfed_line}
use Rattle.mp_cert.proofs.read_lines.TextLines.next.Goals as goal

pub returns-in-Some-clause-some : goal.returns-in-Some-clause-some
returns-in-Some-clause-some c = rw (c.without_return.ensures, c.drop_front-self.ensures) (fed_line c.args.self.now.rest.now c.in-Some.at (sym c.in-Some.ensures))

pub returns-in-None-clause-some : goal.returns-in-None-clause-some
returns-in-None-clause-some c = rw (c.without_return-in-None.ensures, c.drop_front-self-in-None.ensures) (unfed_line c.args.self.now.rest.now (sym c.in-None.ensures) (search rules))
