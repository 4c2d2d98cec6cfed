use Rattle.std.proofs.Common.{◌≡◌, [], ◌∷◌, length, rules, ◌∙◌, to_z-of_z}
use Rattle.std.specs.Int.{w128}
use Rattle.std.specs.Prelude.{FitsSigned}
use Rattle.std.proofs.lemmas.Result.{err_from_is_err_and}
use Rattle.mp_cert.specs.TextMeaning.{cert_forms}
use Rattle.mp_cert.proofs.RowLemmas.{rows_fail}
use Rattle.mp_cert.proofs.HeadLemmas.{from_d, from_e, from_h, first_read, d_read, e_read, h_read, h_fails}
use Rattle.mp_cert.proofs.read.read_head.Goals as goal

pub returns-in_err-row-clause-fault : goal.returns-in_err-row-clause-fault
returns-in_err-row-clause-fault c =
    let p = err_from_is_err_and c.from_residual.result c.from_residual.ensures.1 in
    rw (p.1, p.2) (c.in_err-row.ensures.fault (from_d c.args.net.now))

pub returns-in_err-d-clause-fault : goal.returns-in_err-d-clause-fault
returns-in_err-d-clause-fault c =
    let p = err_from_is_err_and c.from_residual-in_err-d.result c.from_residual-in_err-d.ensures.1 in
    let first = first_read c.args.net.now c.in_ok-row.field-0.items c.args.lines.now.number c.row.new.self.number c.args.lines.now.rest.now c.row.new.self.rest.now c.in_ok-row.ensures.count c.in_ok-row.ensures.ok in
    rw (p.1, p.2) (rows_fail (cert_forms c.args.net.now) ([] ∷ []) (from_d c.args.net.now) c.in_err-d.field-0.0 c.args.lines.now.number c.row.new.self.number c.args.lines.now.rest.now c.row.new.self.rest.now first (c.in_err-d.ensures.fault (from_e c.args.net.now)))

pub returns-in_err-e-clause-fault : goal.returns-in_err-e-clause-fault
returns-in_err-e-clause-fault c =
    let p = err_from_is_err_and c.from_residual-in_err-e.result c.from_residual-in_err-e.ensures.1 in
    let first = first_read c.args.net.now c.in_ok-row.field-0.items c.args.lines.now.number c.row.new.self.number c.args.lines.now.rest.now c.row.new.self.rest.now c.in_ok-row.ensures.count c.in_ok-row.ensures.ok in
    let denominator = d_read c.args.net.now c.in_ok-d.d c.args.lines.now.number c.row.new.self.number c.read_number.new.lines.number c.args.lines.now.rest.now c.row.new.self.rest.now c.read_number.new.lines.rest.now first c.in_ok-d.ensures.ok in
    rw (p.1, p.2) (rows_fail (cert_forms c.args.net.now) ([] ∷ (c.in_ok-d.d ∷ []) ∷ []) (from_e c.args.net.now) c.in_err-e.field-0.0 c.args.lines.now.number c.read_number.new.lines.number c.args.lines.now.rest.now c.read_number.new.lines.rest.now denominator (c.in_err-e.ensures.fault (from_h c.args.net.now)))

pub returns-in_err-h-clause-fault : goal.returns-in_err-h-clause-fault
returns-in_err-h-clause-fault c =
    let p = err_from_is_err_and c.from_residual-in_err-h.result c.from_residual-in_err-h.ensures.1 in
    let first = first_read c.args.net.now c.in_ok-row.field-0.items c.args.lines.now.number c.row.new.self.number c.args.lines.now.rest.now c.row.new.self.rest.now c.in_ok-row.ensures.count c.in_ok-row.ensures.ok in
    let denominator = d_read c.args.net.now c.in_ok-d.d c.args.lines.now.number c.row.new.self.number c.read_number.new.lines.number c.args.lines.now.rest.now c.row.new.self.rest.now c.read_number.new.lines.rest.now first c.in_ok-d.ensures.ok in
    let excess = e_read c.args.net.now c.in_ok-d.d c.in_ok-e.e c.args.lines.now.number c.read_number.new.lines.number c.read_number-2.new.lines.number c.args.lines.now.rest.now c.read_number.new.lines.rest.now c.read_number-2.new.lines.rest.now denominator c.in_ok-e.ensures.ok in
    let size : c.from.result ≡ length c.args.net.now.movements = c.from.ensures ∙ c.movements.ensures.count in
    rw (p.1, p.2) (h_fails c.args.net.now c.in_ok-d.d c.in_ok-e.e c.in_err-h.field-0.0 c.from.result c.args.lines.now.number c.read_number-2.new.lines.number c.args.lines.now.rest.now c.read_number-2.new.lines.rest.now excess size c.in_err-h.ensures.fault)

pub returns-clause-ok : goal.returns-clause-ok
returns-clause-ok c =
    let first = first_read c.args.net.now c.in_ok-row.field-0.items c.args.lines.now.number c.row.new.self.number c.args.lines.now.rest.now c.row.new.self.rest.now c.in_ok-row.ensures.count c.in_ok-row.ensures.ok in
    let denominator = d_read c.args.net.now c.in_ok-d.d c.args.lines.now.number c.row.new.self.number c.read_number.new.lines.number c.args.lines.now.rest.now c.row.new.self.rest.now c.read_number.new.lines.rest.now first c.in_ok-d.ensures.ok in
    let excess = e_read c.args.net.now c.in_ok-d.d c.in_ok-e.e c.args.lines.now.number c.read_number.new.lines.number c.read_number-2.new.lines.number c.args.lines.now.rest.now c.read_number.new.lines.rest.now c.read_number-2.new.lines.rest.now denominator c.in_ok-e.ensures.ok in
    let size : c.from.result ≡ length c.args.net.now.movements = c.from.ensures ∙ c.movements.ensures.count in
    let d_fits : FitsSigned w128 c.in_ok-d.d = search rules in
    let e_fits : FitsSigned w128 c.in_ok-e.e = search rules in
    rw (to_z-of_z {z = c.in_ok-d.d} d_fits, to_z-of_z {z = c.in_ok-e.e} e_fits) (h_read c.args.net.now c.in_ok-d.d c.in_ok-e.e c.in_ok-h.h.items c.from.result c.args.lines.now.number c.read_number-2.new.lines.number c.row-2.new.self.number c.args.lines.now.rest.now c.read_number-2.new.lines.rest.now c.row-2.new.self.rest.now excess size c.in_ok-h.ensures.ok)
