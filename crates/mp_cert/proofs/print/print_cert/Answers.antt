use Rattle.mp_text.proofs.Appended.{append_then, append_whole}
use Rattle.mp_cert.proofs.print.print_cert.Goals as goal

pub returns-clause-bytes : goal.returns-clause-bytes
returns-clause-bytes g c =
    let rates = append_then (rw c.as_slice.ensures at c.push_line-2.ensures) (rw c.as_slice-2.ensures at c.push_mixes.ensures) in
    let lines = append_then c.push_line.ensures (append_then c.push_one.ensures (append_then c.push_one-2.ensures rates)) in
    (append_whole c.end.result (rw c.new-text.ensures at lines) c.end.ensures.appends c.end.ensures.ends).0

pub returns-clause-cause : goal.returns-clause-cause
returns-clause-cause g c =
    let rates = append_then (rw c.as_slice.ensures at c.push_line-2.ensures) (rw c.as_slice-2.ensures at c.push_mixes.ensures) in
    let lines = append_then c.push_line.ensures (append_then c.push_one.ensures (append_then c.push_one-2.ensures rates)) in
    (append_whole c.end.result (rw c.new-text.ensures at lines) c.end.ensures.appends c.end.ensures.ends).1
