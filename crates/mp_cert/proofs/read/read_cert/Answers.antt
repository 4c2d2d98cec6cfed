use Rattle.std.proofs.Common.{rules, to_z-of_z}
use Rattle.std.specs.Int.{w128}
use Rattle.std.specs.Prelude.{FitsSigned}
use Rattle.mp_cert.proofs.HeadLemmas.{cert_from_first}
use Rattle.mp_cert.proofs.MeaningLemmas.{cert_fits}
use Rattle.mp_cert.proofs.read.read_cert.Goals as goal

pub returns-clause-ok : goal.returns-clause-ok
returns-clause-ok c =
    let d_fits : FitsSigned w128 c.in_ok-head.head.d = search rules in
    let e_fits : FitsSigned w128 c.in_ok-head.head.e = search rules in
    rw (to_z-of_z {z = c.in_ok-head.head.d} d_fits, to_z-of_z {z = c.in_ok-head.head.e} e_fits) (rw (c.new.ensures, c.new-2.ensures) (cert_from_first c.args.net.now c.args.bytes.now c.in_ok-head.head.d c.in_ok-head.head.e c.in_ok-head.head.h.items c.in_ok-mix.mix.items
    c.new-lines.result.number c.read_head.new.lines.number c.read_mixes.new.lines.number c.new-lines.result.rest.now c.read_head.new.lines.rest.now c.read_mixes.new.lines.rest.now
    c.new-lines.ensures.number c.new-lines.ensures.rest c.in_ok-head.ensures.ok c.in_ok-mix.ensures.ok c.in_ok-end.ensures.ok))

pub returns-clause-lengths : goal.returns-clause-lengths
returns-clause-lengths c = (cert_fits c.args.net.now c.args.bytes.now _ (returns-clause-ok c)).0

pub returns-clause-natural : goal.returns-clause-natural
returns-clause-natural c = (cert_fits c.args.net.now c.args.bytes.now _ (returns-clause-ok c)).1
