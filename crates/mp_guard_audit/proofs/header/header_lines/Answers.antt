use Rattle.std.proofs.Common.{◌≡◌, ◌+◌, ◌*◌, ◌∙◌, length, ap, sym, arith}
use Rattle.mp_model.specs.Network.{Network}
use Rattle.mp_guard_audit.proofs.HeadingLemmas.{header_count}
use Rattle.mp_guard_audit.proofs.header.header_lines.Goals as goal

pub returns : goal.returns
returns c =
    let s = c.args.session.now in
    let junctions : c.from.result ≡ length s.net.junctions = c.from.ensures ∙ c.junctions.ensures.count ∙ ap (λ (n : Network). length n.junctions) c.net-net.ensures in
    let movements : c.from-2.result ≡ length s.net.movements = c.from-2.ensures ∙ c.movements.ensures.count ∙ ap (λ (n : Network). length n.movements) c.net-net.ensures in
    let size : 5 + c.from.result + 2 * c.from-2.result ≡ 5 + length s.net.junctions + 2 * length s.net.movements = omega (arith, junctions, movements) in
    size ∙ sym (header_count s c.state.ensures.guarding)
