use Rattle.std.proofs.Common.{◌≤◌, ◌-◌, ◌∙◌, length, ap, arith, subst, sym}
use Rattle.mp_cert.specs.Views.{cert_of}
use Rattle.mp_laws.proofs.Lists.{at_index}
use Rattle.mp_model.specs.Network.{no_junction}
use Rattle.mp_press.proofs.Known.{has_numbers}
use Rattle.mp_finder.specs.Giving.{IsMixOver}
use Rattle.mp_finder.proofs.Guarding.{mix_over, parts_size}
use Rattle.mp_finder.proofs.search.greens_at.Goals as goal

pub greens_by-requires-clause-mix : goal.greens_by-requires-clause-mix
greens_by-requires-clause-mix c =
    subst (IsMixOver c.args.d) (sym c.mix_at.ensures.mix)
    (mix_over c.args.net.now c.requires.acceptable.network 1 c.args.d (omega arith) c.requires.denominator (cert_of c.args.cert.now) c.requires.rules c.requires.over c.requires.excess c.args.j (has_numbers (length c.args.net.now.junctions) c.args.j c.requires.junction))

pub greens_by-requires-clause-parts : goal.greens_by-requires-clause-parts
greens_by-requires-clause-parts c =
    ap length c.mix_at.ensures.parts
    ∙ parts_size c.args.net.now c.requires.acceptable.network 1 c.args.d (omega arith) c.requires.denominator (cert_of c.args.cert.now) c.requires.rules c.requires.over c.requires.excess c.args.j (has_numbers (length c.args.net.now.junctions) c.args.j c.requires.junction)

pub taken-requires-clause-size : goal.taken-requires-clause-size
taken-requires-clause-size c =
    let size = rw c.in-Ok-Some.field-0-is at c.in-Ok-Some.ensures.size in
    let few = at_index (λ j. length j.stages ≤ 16) no_junction c.args.net.now.junctions (c.args.j - 1) c.requires.acceptable.range.stages (omega arith) in
    omega (arith, ap length c.deref.ensures.value, size, few)

pub taken-requires-clause-few : goal.taken-requires-clause-few
taken-requires-clause-few c = let few = rw c.in-Ok-Some.field-0-is at c.in-Ok-Some.ensures.few in rw c.deref.ensures.value few
