use Rattle.std.proofs.Common.{◌≡◌, [], ◌∷◌, length, ◌∙◌}
use Rattle.std.proofs.lemmas.Result.{err_from_is_err_and}
use Rattle.mp_cert.proofs.HeadLemmas.{p_read, p_fails, vector_read, vector_fails, row_from_first, fault_from_first}
use Rattle.mp_cert.proofs.MeaningLemmas.{vector_fits}
use Rattle.mp_cert.proofs.read.read_against.Goals as goal

pub returns-in_err-row-clause-fault : goal.returns-in_err-row-clause-fault
returns-in_err-row-clause-fault c =
    let p = err_from_is_err_and c.from_residual.result c.from_residual.ensures.1 in
    rw (p.1, p.2) (fault_from_first c.args.net.now c.in_err-row.field-0.0 c.args.bytes.now c.new-lines.result.number c.new-lines.result.rest.now c.new-lines.ensures.number c.new-lines.ensures.rest c.in_err-row.ensures.fault)

pub returns-in_err-p-clause-fault : goal.returns-in_err-p-clause-fault
returns-in_err-p-clause-fault c =
    let p = err_from_is_err_and c.from_residual-in_err-p.result c.from_residual-in_err-p.ensures.1 in
    let start = row_from_first c.args.net.now c.in_ok-row.field-0.items c.args.bytes.now c.new-lines.result.number c.row.new.self.number c.new-lines.result.rest.now c.row.new.self.rest.now c.new-lines.ensures.number c.new-lines.ensures.rest c.in_ok-row.ensures.count c.in_ok-row.ensures.ok in
    let size : c.from.result ≡ length c.args.net.now.movements = c.from.ensures ∙ c.movements.ensures.count in
    rw (p.1, p.2) (p_fails c.args.net.now c.in_err-p.field-0.0 c.args.bytes.now c.from.result c.row.new.self.number c.row.new.self.rest.now start size c.in_err-p.ensures.fault)

pub returns-in_err-end-clause-fault : goal.returns-in_err-end-clause-fault
returns-in_err-end-clause-fault c =
    let p = err_from_is_err_and c.from_residual-in_err-end.result c.from_residual-in_err-end.ensures.1 in
    let start = row_from_first c.args.net.now c.in_ok-row.field-0.items c.args.bytes.now c.new-lines.result.number c.row.new.self.number c.new-lines.result.rest.now c.row.new.self.rest.now c.new-lines.ensures.number c.new-lines.ensures.rest c.in_ok-row.ensures.count c.in_ok-row.ensures.ok in
    let size : c.from.result ≡ length c.args.net.now.movements = c.from.ensures ∙ c.movements.ensures.count in
    let read = p_read c.args.net.now c.in_ok-p.p.items c.args.bytes.now c.from.result c.row.new.self.number c.row-2.new.self.number c.row.new.self.rest.now c.row-2.new.self.rest.now start size c.in_ok-p.ensures.ok in
    rw (p.1, p.2) (vector_fails c.args.net.now c.in_err-end.field-0.0 ([] ∷ c.in_ok-p.p.items ∷ []) [] c.args.bytes.now c.row-2.new.self.number c.row-2.new.self.rest.now read c.in_err-end.ensures.fault)

pub returns-clause-ok : goal.returns-clause-ok
returns-clause-ok c =
    let start = row_from_first c.args.net.now c.in_ok-row.field-0.items c.args.bytes.now c.new-lines.result.number c.row.new.self.number c.new-lines.result.rest.now c.row.new.self.rest.now c.new-lines.ensures.number c.new-lines.ensures.rest c.in_ok-row.ensures.count c.in_ok-row.ensures.ok in
    let size : c.from.result ≡ length c.args.net.now.movements = c.from.ensures ∙ c.movements.ensures.count in
    let read = p_read c.args.net.now c.in_ok-p.p.items c.args.bytes.now c.from.result c.row.new.self.number c.row-2.new.self.number c.row.new.self.rest.now c.row-2.new.self.rest.now start size c.in_ok-p.ensures.ok in
    rw c.new.ensures (vector_read c.args.net.now c.in_ok-p.p.items c.args.bytes.now c.row-2.new.self.number c.row-2.new.self.rest.now read c.in_ok-end.ensures.ok)

pub returns-clause-natural : goal.returns-clause-natural
returns-clause-natural c = (vector_fits c.args.net.now c.args.bytes.now c.new.result (returns-clause-ok c)).1
