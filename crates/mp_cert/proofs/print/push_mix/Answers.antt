use Rattle.mp_text.proofs.Appended.{append_then}
use Rattle.mp_cert.proofs.print.push_mix.Goals as goal

pub returns : goal.returns
returns g c =
    let words = append_then c.push.ensures.appends c.push_number.ensures in
    let numbers = append_then c.push_next.ensures (rw c.as_slice.ensures at c.push_spaced.ensures) in
    append_then (append_then words numbers) c.push-2.ensures.appends
