use Rattle.std.proofs.Common.{◌-◌, refl}
use Rattle.std.proofs.lemmas.Result.{IfOk-weaker, IfErr-weaker}
use Rattle.mp_cert.proofs.RowLemmas.{reads_row, refuses_ahead, missing}
use Rattle.mp_cert.proofs.read_lines.TextLines.row.Goals as goal

pub returns-in_default-clause-fault : goal.returns-in_default-clause-fault
returns-in_default-clause-fault c = missing c.args.self.now.number c.kept.new.self.number c.args.self.now.rest.now (record { words = c.args.words.now; count = c.args.count }) c.in_default.ensures.none

pub returns-clause-ok : goal.returns-clause-ok
returns-clause-ok c = IfOk-weaker c.read_numbers.result _ _
    (λ row is. reads_row c.in-Some.line.now c.args.self.now.number c.kept.new.self.number c.args.self.now.rest.now c.kept.new.self.rest.now (record { words = c.args.words.now; count = c.args.count }) row.items c.in-Some.ensures.some is)
    c.read_numbers.ensures.ok

pub returns-clause-fault : goal.returns-clause-fault
returns-clause-fault c = IfErr-weaker c.read_numbers.result _ _
    (λ fault refuses. refuses_ahead c.in-Some.line.now c.args.self.now.number c.kept.new.self.number (c.kept.new.self.number - 1) c.args.self.now.rest.now c.kept.new.self.rest.now (record { words = c.args.words.now; count = c.args.count }) fault c.in-Some.ensures.some refl refuses)
    c.read_numbers.ensures.fault
