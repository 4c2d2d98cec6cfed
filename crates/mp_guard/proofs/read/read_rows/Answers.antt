use Rattle.std.proofs.Common.{map, arith}
use Rattle.std.proofs.lemmas.Result.{err_from_is_err_and}
use Rattle.mp_guard.proofs.ReadLemmas.{lines_next, lines_fail, lines_end, lines_refuse}
use Rattle.mp_guard.proofs.read.read_rows.Goals as goal

pub returns-in_err-row-clause-fault : goal.returns-in_err-row-clause-fault
returns-in_err-row-clause-fault c =
    let p = err_from_is_err_and c.from_residual.result c.from_residual.ensures.1 in
    rw (p.1, p.2) (lines_fail c.args.net.now (map (λ row. row.items) c.loop-i.rows.items) c.loop-i.i c.loop-i.lines.number c.in_err-row.field-0.0 c.args.bytes.now c.loop-i.lines.rest.now c.loop-i.invariant.read (omega arith) c.in_err-row.ensures.fault)

pub loop-i-preserved : goal.loop-i-preserved
loop-i-preserved c = record {
  count = omega (arith, c.in_ok-push.ensures.len);
  room = c.in_ok-row.ensures.room;
  read = lines_next c.args.net.now c.loop-i.rows.items c.push.new.self.items c.in_ok-row.row c.loop-i.i c.loop-i.lines.number c.read_line.new.lines.number c.args.bytes.now c.loop-i.lines.rest.now c.read_line.new.lines.rest.now
      c.loop-i.invariant.read (omega arith) c.in_ok-row.ensures.ok c.in_ok-push.ensures.items;
}

pub returns-in_err-end-clause-fault : goal.returns-in_err-end-clause-fault
returns-in_err-end-clause-fault c =
    let p = err_from_is_err_and c.from_residual-in_err-end.result c.from_residual-in_err-end.ensures.1 in
    rw (p.1, p.2) (lines_refuse c.args.net.now (map (λ row. row.items) c.loop-i.rows.items) c.loop-i.i c.loop-i.lines.number c.in_err-end.field-0.0 c.args.bytes.now c.loop-i.lines.rest.now c.loop-i.invariant.read (omega arith) c.in_err-end.ensures.fault)

pub returns-clause-ok : goal.returns-clause-ok
returns-clause-ok c = lines_end c.args.net.now (map (λ row. row.items) c.loop-i.rows.items) c.loop-i.i c.loop-i.lines.number c.args.bytes.now c.loop-i.lines.rest.now c.loop-i.invariant.read (omega arith) c.in_ok-end.ensures.ok
