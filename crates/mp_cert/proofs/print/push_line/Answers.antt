use Rattle.mp_text.proofs.Appended.{append_then}
use Rattle.mp_cert.proofs.print.push_line.Goals as goal

pub returns : goal.returns
returns g c = append_then (append_then c.push.ensures.appends c.push_spaced.ensures) c.push-2.ensures.appends
