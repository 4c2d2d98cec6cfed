use Rattle.std.proofs.Common.{◌≡◌, ◌+◌, ◌∙◌, sym, length, nat_eq, true, false}
use Rattle.mp_model.specs.Network.{junction_at}
use Rattle.mp_model.specs.Certificate.{mix_at}
use Rattle.mp_cert.specs.Views.{cert_of}
use Rattle.mp_cert.proofs.LengthLemmas.{fitting_more, fitting_fails}
use Rattle.mp_cert.proofs.lengths.have_parts.Goals as goal

pub returns-then-not-has_parts : goal.returns-then-not-has_parts
returns-then-not-has_parts c =
    let unlike : nat_eq (length (mix_at (cert_of c.args.cert.now) (c.loop-j.j + 1)).parts) (length (junction_at c.args.net.now (c.loop-j.j + 1)).stages) ≡ false = sym c.has_parts.ensures ∙ c.if-not-has_parts.true in
    fitting_fails c.args.net.now (cert_of c.args.cert.now) c.junctions-j-end.result c.loop-j.j c.junctions-j-end.ensures.count c.loop-j-test.true unlike

pub loop-j-preserved : goal.loop-j-preserved
loop-j-preserved c =
    let alike : nat_eq (length (mix_at (cert_of c.args.cert.now) (c.loop-j.j + 1)).parts) (length (junction_at c.args.net.now (c.loop-j.j + 1)).stages) ≡ true = sym c.has_parts.ensures ∙ c.if-not-has_parts.false in
    fitting_more c.args.net.now (cert_of c.args.cert.now) c.loop-j.j c.loop-j.invariant alike
