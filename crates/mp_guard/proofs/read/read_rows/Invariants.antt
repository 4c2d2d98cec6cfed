use Rattle.std.proofs.Common.{◌≡◌, map, length}
use Rattle.mp_cert.specs.TextReading.{HasRoom}
use Rattle.mp_guard.proofs.ReadLemmas.{LinesRead}
use Rattle.mp_guard.proofs.read.read_rows.Given as goal

abbrev pub invariant-loop-i : goal.invariant-loop-i
invariant-loop-i l = record { count : length l.rows.items ≡ l.i; room : HasRoom l.lines.number l.lines.rest.now; read : LinesRead l.net (map (λ row. row.items) l.rows.items) l.i l.bytes l.lines.number l.lines.rest.now }
