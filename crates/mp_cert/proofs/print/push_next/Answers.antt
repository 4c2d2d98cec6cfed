use Rattle.std.proofs.Common.{FitsSigned, to_z-of_z, rules}
use Rattle.std.specs.Int.{w128}
use Rattle.mp_text.proofs.Appended.{append_then}
use Rattle.mp_cert.proofs.print.push_next.Goals as goal

pub returns : goal.returns
returns g c =
    let fits : FitsSigned w128 c.args.number.now = search rules in
    append_then c.push.ensures.appends (simp to_z-of_z at c.push_number.ensures)
