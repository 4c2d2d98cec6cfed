use Rattle.mp_cert.proofs.RowLemmas.{further, no_further}
use Rattle.mp_cert.proofs.read_lines.TextLines.end.Goals as goal

pub returns-in-Some-clause-fault : goal.returns-in-Some-clause-fault
returns-in-Some-clause-fault c = further c.in-Some.field-0.now c.args.self.now.number c.kept.new.self.number c.args.self.now.rest.now c.kept.new.self.rest.now c.in-Some.ensures.some

pub returns-in-None-clause-ok : goal.returns-in-None-clause-ok
returns-in-None-clause-ok c = no_further c.args.self.now.number c.kept.new.self.number c.args.self.now.rest.now c.in-None.ensures.none
