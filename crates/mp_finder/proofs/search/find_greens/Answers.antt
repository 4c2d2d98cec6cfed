use Rattle.std.proofs.Common.{◌≡◌, ◌∙◌, length, map, unsigned_abs, ap, arith}
use Rattle.mp_cert.specs.Views.{cert_of}
use Rattle.mp_finder.specs.Greens.{all_wanted}
use Rattle.mp_finder.proofs.Finding.{going_fault}
use Rattle.mp_finder.proofs.search.find_greens.Goals as goal

pub greens_at-requires-clause-wants : goal.greens_at-requires-clause-wants
greens_at-requires-clause-wants c = ap length c.deref-in-loop-j.ensures.value ∙ c.in-Ok-all_wants.ensures.size

pub returns-in-Err-clause-calculation : goal.returns-in-Err-clause-calculation
returns-in-Err-clause-calculation c =
    let want : c.deref-in-loop-j.result.now ≡ all_wanted c.args.net.now c.args.cycle c.args.d (map unsigned_abs c.args.cert.now.h) =
    c.deref-in-loop-j.ensures.value ∙ c.in-Ok-all_wants.ensures.wants ∙ ap (all_wanted c.args.net.now c.args.cycle c.args.d) (c.deref.ensures.value ∙ c.in-Ok.ensures) in
    going_fault c.args.net.now c.args.cycle c.args.lost c.args.d (cert_of c.args.cert.now) (map unsigned_abs c.args.cert.now.h) c.deref-in-loop-j.result.now c.loop-j.j c.loop-j.greens.items c.loop-j.invariant (omega arith) want c.in-Err.fault c.in-Err.ensures
