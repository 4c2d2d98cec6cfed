use Rattle.mp_text.proofs.Appended.{append_none, append_then, append_whole}
use Rattle.mp_cert.proofs.print.print_against.Goals as goal

pub returns-clause-bytes : goal.returns-clause-bytes
returns-clause-bytes g c =
    let lines = append_then c.push_line.ensures (append_then (rw c.as_slice.ensures at c.push_line-2.ensures) append_none) in
    (append_whole c.end.result (rw c.new-text.ensures at lines) c.end.ensures.appends c.end.ensures.ends).0

pub returns-clause-cause : goal.returns-clause-cause
returns-clause-cause g c =
    let lines = append_then c.push_line.ensures (append_then (rw c.as_slice.ensures at c.push_line-2.ensures) append_none) in
    (append_whole c.end.result (rw c.new-text.ensures at lines) c.end.ensures.appends c.end.ensures.ends).1
